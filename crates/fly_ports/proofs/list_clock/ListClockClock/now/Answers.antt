use Rattle.std.proofs.Common.{◌≡◌, ℤ, List, ap, ◌∙◌, rules, SFits, w64}
use Rattle.std.proofs.lemmas.Int.{to_z-of_z}
use Rattle.fly_ports.proofs.ListClockLemmas.{gives-call}
use Rattle.fly_ports.specs.ListClock.{answer_at}
use Rattle.fly_ports.proofs.list_clock.ListClockClock.now.Goals as goal

pub returns-clause-gives : goal.returns-clause-gives
returns-clause-gives c =
    let answer : c.answer_after.result ≡ answer_at c.self.inside.answers c.self.inside.calls =
    c.answer_after.ensures ∙ ap (λ (l : List ℤ). answer_at l c.self.inside.calls) c.as_slice.ensures in
    let gives = gives-call c.self.inside.answers c.self.inside.calls c.saturating_add-self-inside.result c.answer_after.result c.saturating_add-self-inside.ensures answer in
    let fits : SFits w64 c.answer_after.result = search rules in
    rw (← c.self.view_is) (simp to_z-of_z gives)
