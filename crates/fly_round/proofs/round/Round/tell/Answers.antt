use Rattle.std.proofs.Common.{◌≡◌, ◌++◌, ◌∷◌, [], Bool, List, Option, None, sym, ap, subst, ◌∙◌}
use Rattle.std.proofs.lemmas.Option.{none-some, same_Some}
use Rattle.fly_state.specs.declared.entries.Op.{Op}
use Rattle.fly_round.specs.declared.told.Told.{Told}
use Rattle.fly_round.specs.Rounds.{RoundState, answer_of, with_answer, IsRound}
use Rattle.fly_round.proofs.ComeLemmas.{progress}
use Rattle.fly_round.proofs.TellLemmas.{round-told}
use Rattle.fly_round.proofs.round.Round.tell.Goals as goal

pub keep-requires : goal.keep-requires
keep-requires c = c.self.invariant.1 c.in-Some.op (sym c.in-Some.ensures.value)

pub invariant_of-self-2 : goal.invariant_of-self-2
invariant_of-self-2 c =
    let inside = c.self.inside in
    let plan = inside.plan.now in
    let v = inside.view in
    let o = c.in-Some.op in
    let r = c.args.reply in
    let at = inside.at in
    let attempts = inside.attempts.items in
    let told = inside.told.items in
    let more : List Told = told ++ answer_of o c.args.place r ∷ [] in
    let begun = subst (λ (x : Option Op). IsRound plan v inside.broken attempts told x at) (sym c.in-Some.ensures.value) c.self.invariant.0 in
    let done = round-told plan c.primary.result.now c.primary.ensures v inside.broken attempts told o c.args.place r at begun in
    let missed = subst (λ (b : Bool). IsRound plan v inside.broken attempts more None (progress at.next at.half b)) (sym c.is_missed-self-inside.ensures) done in
    let emptied = subst (λ (x : Option Op). IsRound plan v inside.broken attempts more x (progress at.next at.half c.is_missed-self-inside.result)) (sym c.take.ensures.after) missed in
    let kept = subst (λ (ts : List Told). IsRound plan v inside.broken attempts ts c.take.new.self (progress at.next at.half c.is_missed-self-inside.result)) (sym c.keep.ensures) emptied in
    (kept, λ a e. absurd (none-some a (sym c.take.ensures.after ∙ e)))

pub returns : goal.returns
returns c = λ o e.
    let inside = c.self.inside in
    let told = inside.told.items in
    let state : List Told → Option Op → RoundState = λ ts x. record { plan = inside.plan.now; view = inside.view; told = ts; waiting = x } in
    let same : c.in-Some.op ≡ o = same_Some _ _ (c.in-Some.ensures.value ∙ ap (λ (s : RoundState). s.waiting) c.self.view_is ∙ e) in
    ap (λ ts. state ts c.take.new.self) c.keep.ensures
    ∙ ap (state (told ++ answer_of c.in-Some.op c.args.place c.args.reply ∷ [])) c.take.ensures.after
    ∙ ap (λ a. state (told ++ answer_of a c.args.place c.args.reply ∷ []) None) same
    ∙ ap (λ (s : RoundState). with_answer s o c.args.place c.args.reply) c.self.view_is
