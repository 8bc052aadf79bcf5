mod SummaryLemmas
mod OpeningLemmas
mod DrivingLemmas
mod GeneratedLemmas
