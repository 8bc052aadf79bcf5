use Rattle.std.proofs.Common.{◌≡◌, ℕ, ◌-◌, ◌<◌, Bool, true, false, ◌&&◌, cond, List, eqb, ltb, length, get_or, take, drop, refl, ◌∙◌, ap, subst, arith}
use Rattle.std.specs.List.{All, list_any}
use Rattle.std.proofs.lemmas.List.{with_items_is, take_rest}
use Rattle.std.proofs.lemmas.List.Elements.{All-drop, All-weaker}
use Rattle.std.proofs.lemmas.Bool.{and_left}
use Rattle.fly_graph.specs.declared.components.Mark.{Mark}
use Rattle.fly_graph.specs.declared.components.Mark.TheVariants.{Unseen, Done}
use Rattle.fly_graph.proofs.SearchLists.{written_everywhere, none_past}
use Rattle.fly_graph.proofs.components.Search.close.Goals as goal

pub returns : goal.returns
returns c =
    let old = c.args.self.now in
    let members : List ℕ = drop c.args.bound old.path.items in
    let marks : List Mark = old.marks.items in
    let cyclic : List Bool = old.cyclic.items in
    let new_marks = with_items_is old.marks c.assign.new.values (omega (arith, c.as_mut_slice.ensures.len)) in
    let new_cyclic = with_items_is old.cyclic c.note_cycles.new.cyclic (omega (arith, c.as_mut_slice-2.ensures.len)) in
    let marks_len : length c.assign.new.values ≡ length marks = omega (arith, c.as_mut_slice.ensures.len) in
    let cyclic_len : length c.note_cycles.new.cyclic ≡ length cyclic = omega (arith, c.as_mut_slice-2.ensures.len) in
    let below : All (λ v. (v < length marks) × (v < length cyclic)) members = All-drop (λ v. (v < length marks) × (v < length cyclic)) c.args.bound old.path.items c.requires.numbers in
    let outside = none_past members (length marks) (All-weaker (λ v. (v < length marks) × (v < length cyclic)) (λ v. v < length marks) (λ v both. both.0) members below) in
    let beyond = none_past members (length cyclic) (All-weaker (λ v. (v < length marks) × (v < length cyclic)) (λ v. v < length cyclic) (λ v both. both.1) members below) in
    let same_members : take (length c.deref.result.now - c.args.bound) (drop c.args.bound c.deref.result.now) ≡ members = take_rest c.deref.result.now c.args.bound ∙ ap (drop c.args.bound) c.deref.ensures.value in
    let P : List ℕ → Type 0 = λ xs. (q : ℕ) → q < length c.as_mut_slice.result.now → get_or c.assign.new.values q Unseen ≡ cond (list_any (eqb q) xs) Done (get_or c.as_mut_slice.result.now q Unseen) in
    let over_members : P members = subst P same_members (λ q small. c.assign.ensures q Unseen small) in
    let Q : List Mark → Type 0 = λ xs. (q : ℕ) → q < length xs → get_or c.assign.new.values q Unseen ≡ cond (list_any (eqb q) members) Done (get_or xs q Unseen) in
    let R : List ℕ → Type 0 = λ xs. (q : ℕ) → q < length c.as_mut_slice-2.result.now → get_or c.note_cycles.new.cyclic q false ≡ cond (list_any (eqb q) xs && ltb 1 (length xs)) true (get_or c.as_mut_slice-2.result.now q false) in
    let flags_over_members : R members = subst R same_members (λ q small. c.note_cycles.ensures q small) in
    let S : List Bool → Type 0 = λ xs. (q : ℕ) → q < length xs → get_or c.note_cycles.new.cyclic q false ≡ cond (list_any (eqb q) members && ltb 1 (length members)) true (get_or xs q false) in
    record {
      path = c.truncate.ensures.items;
      bounds = c.pop.ensures.rest ∙ ap (λ n. take (n - 1) old.bounds.items) old.bounds.ok.0;
      followed = refl;
      pending = refl;
      marks_len = ap length new_marks ∙ marks_len;
      cyclic_len = ap length new_cyclic ∙ cyclic_len;
      marks = λ v. ap (λ xs. get_or xs v Unseen) new_marks
          ∙ written_everywhere marks c.assign.new.values Unseen Done (λ q. list_any (eqb q) members) marks_len (subst Q c.as_mut_slice.ensures.value over_members) outside v;
      cyclic = λ v. ap (λ xs. get_or xs v false) new_cyclic
          ∙ written_everywhere cyclic c.note_cycles.new.cyclic false true (λ q. list_any (eqb q) members && ltb 1 (length members)) cyclic_len (subst S c.as_mut_slice-2.ensures.value flags_over_members) (λ q large. and_left _ _ (beyond q large)) v;
    }
