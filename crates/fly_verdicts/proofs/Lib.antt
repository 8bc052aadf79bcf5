mod ExecutionLemmas
mod GroupLemmas
mod FoundTyped
mod TypedRecords
mod NamedLists
mod EvaluatedLemmas
mod SeenLemmas
