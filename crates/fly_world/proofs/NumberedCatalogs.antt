-- Catalogs whose artifacts have the ids of their places: which tag names an artifact, and what one more leaves.
use Rattle.std.proofs.Common.{◌≡◌, ℕ, ◌+◌, ◌^◌, ◌<◌, Bool, true, false, ◌&&◌, cond, [], ◌∷◌, ◌++◌, length, Some, None, refl, sym, ◌∙◌, ap, subst, ⊎_elim, arith, codes, length-append}
use Rattle.std.specs.Fmt.{decimal}
use Rattle.std.specs.List.{slice_get}
use Rattle.std.specs.Option.{option_map, option_and_then}
use Rattle.std.specs.Prelude.{Result, MatchResult}
use Rattle.std.proofs.lemmas.Bool.{and_parts, cases_Bool}
use Rattle.std.proofs.lemmas.Fmt.{decimal_injective}
use Rattle.std.proofs.lemmas.List.{append_cancel_left}
use Rattle.std.proofs.lemmas.Option.{same_Some, slice_get_within}
use Rattle.std.proofs.lemmas.Slice.Eq.{bytes_eq-Decides}
use Rattle.fly_types.specs.declared.text.Text.{Text}
use Rattle.fly_types.specs.declared.literals.LiteralMap.{LiteralMap}
use Rattle.fly_docs.specs.declared.dataset.DatasetId.{DatasetId}
use Rattle.fly_attempts.proofs.ListLemmas.{find_first, get_pushed, get_before, get_last, get_within}
use Rattle.fly_catalog.specs.declared.parts.Artifact.{Artifact}
use Rattle.fly_catalog.specs.declared.parts.Tag.{Tag}
use Rattle.fly_catalog.specs.declared.requests.CatalogFault.{CatalogFault}
use Rattle.fly_catalog.specs.declared.requests.CatalogFault.TheVariants as fault
use Rattle.fly_catalog.specs.declared.requests.Grant.{Grant}
use Rattle.fly_catalog.specs.declared.requests.Grant.TheVariants as grant
use Rattle.fly_catalog.specs.Catalog.{CatalogLists}
use Rattle.fly_catalog.specs.Parts.{same_text, same_dataset, is_artifact}
use Rattle.fly_catalog.specs.Requests.{artifact_of, tag_of, has_dataset, store_fault, with_dataset, with_artifact, with_tag, with_stored, Answers, after_grant}
use Rattle.fly_catalog.proofs.Finds.{find_none}
use Rattle.fly_world.specs.Stored.{tag_naming, stored_as}
use Rattle.fly_world.specs.Steps.{with_artifact_under}
use Rattle.fly_world.specs.Store.{artifact_id, IsNumberedCatalog}

-- an id is of one place
id_single : (m n : ℕ) → m < 2 ^ 64 → n < 2 ^ 64 → artifact_id m ≡ artifact_id n → m ≡ n
id_single m n small low e = decimal_injective m n small low (append_cancel_left (codes "a") (decimal m) (decimal n) e)

text-same : (t u : Text) → t ≡ u → same_text t u ≡ true
text-same t u e = (bytes_eq-Decides t u).1 e

text-is : (t u : Text) → same_text t u ≡ true → t ≡ u
text-is t u h = (bytes_eq-Decides t u).0 h

both : (a b : Bool) → a ≡ true → b ≡ true → (a && b) ≡ true
both a b h k = ap (λ x. x && b) h ∙ k

dataset-same : (d e : DatasetId) → d ≡ e → same_dataset d e ≡ true
dataset-same d e same =
    subst (λ x. same_dataset d x ≡ true) same
    (both _ _ (both _ _ (both _ _ (text-same d.project d.project refl) (text-same d.domain d.domain refl))
    (text-same d.name d.name refl)) (text-same d.version d.version refl))

module _ (c : CatalogLists) (numbered : IsNumberedCatalog c) where
  -- the tag that names an artifact stands at its place
  module _ (n : ℕ) (a : Artifact) (t : Tag) (low : n < 2 ^ 64) (here : slice_get c.artifacts n ≡ Some a)
      (there : slice_get c.tags n ≡ Some t) where
    abbrev names : Tag → Bool
    names x = same_dataset x.dataset a.dataset && same_text x.artifact a.id

    own : (x : Tag) → slice_get c.tags n ≡ Some x → names x ≡ true
    own x at =
        let first = numbered.tags n a here in
        subst (λ y. names y ≡ true) (same_Some first.0 x (sym first.1 ∙ at))
        (both _ _ (dataset-same first.0.dataset a.dataset first.2) (text-same first.0.artifact a.id first.3))

    other : (j : ℕ) (x : Tag) → j < n → slice_get c.tags j ≡ Some x → names x ≡ false
    other j x before at =
        ⊎_elim (λ yes.
        let within : j < length c.artifacts = omega (arith, before, slice_get_within c.artifacts n a here) in
        let b = get_within c.artifacts j within in
        let first = numbered.tags j b.0 b.1 in
        let names_b : x.artifact ≡ b.0.id =
        ap (λ (y : Tag). y.artifact) (same_Some x first.0 (sym at ∙ first.1)) ∙ first.3 in
        let names_a : x.artifact ≡ a.id =
        text-is x.artifact a.id (and_parts (same_dataset x.dataset a.dataset) (same_text x.artifact a.id) yes).1 in
        let same : artifact_id j ≡ artifact_id n =
        sym (numbered.ids j b.0 b.1) ∙ sym names_b ∙ names_a ∙ numbered.ids n a here in
        let lower : j < 2 ^ 64 = omega (arith, before, low) in
        absurd (omega (arith, before, id_single j n lower low same)))
        (λ no. no)
        (cases_Bool (names x))

    pub tag_at : tag_naming c a ≡ Some t
    tag_at = find_first names c.tags n other own ∙ there

    -- what was stored as the artifact
    pub stored_is : option_and_then (stored_as c) (slice_get c.artifacts n)
        ≡ Some (record { dataset = a.dataset; tag = t.name; content = a.content })
    stored_is =
        ap (option_and_then (stored_as c)) here
        ∙ ap (option_map (λ (x : Tag). record { dataset = a.dataset; tag = x.name; content = a.content })) tag_at

  -- the next id is new
  pub id_new : (d : DatasetId) → length c.artifacts < 2 ^ 64
      → artifact_of c d (artifact_id (length c.artifacts)) ≡ None
  id_new d few = find_none (is_artifact d (artifact_id (length c.artifacts))) c.artifacts old
    where
      old : (i : ℕ) (a : Artifact) → slice_get c.artifacts i ≡ Some a
          → is_artifact d (artifact_id (length c.artifacts)) a ≡ true → ⊥
      old i a here passes =
          let within = slice_get_within c.artifacts i a here in
          let parts =
          and_parts (same_dataset d a.dataset) (same_text (artifact_id (length c.artifacts)) a.id) passes in
          let same : artifact_id (length c.artifacts) ≡ artifact_id i =
          text-is (artifact_id (length c.artifacts)) a.id parts.1 ∙ numbered.ids i a here in
          let low : i < 2 ^ 64 = omega (arith, within, few) in
          omega (arith, within, id_single (length c.artifacts) i few low same)

  -- so nothing but memory can be wanting for what is stored under it, where the tag is new
  pub stored_told : (d : DatasetId) (id tag : Text) (content : LiteralMap) (new : CatalogLists)
      (r : Result (Unit {0}) CatalogFault) (count : ℕ) → count < 2 ^ 64 → count ≡ length c.artifacts
      → id ≡ artifact_id count → tag_of c d tag ≡ None
      → Answers (store_fault c d id tag) c
      (with_stored c (record { dataset = d; id = id; content = content })
      (record { dataset = d; name = tag; artifact = id })) new r
      → MatchResult r (λ _. new ≡ with_artifact_under c d tag content) (λ f. (f ≡ fault.NoMemory) × (new ≡ c))
  stored_told d id tag content new r count small counted is free told =
      let next : Text = artifact_id (length c.artifacts) in
      let few = subst (λ n. n < 2 ^ 64) counted small in
      let none : store_fault c d next tag ≡ None = rw (free, id_new d few) refl in
      subst (λ f. Answers f c (with_artifact_under c d tag content) new r) none
      (subst
      (λ (i : Text). Answers (store_fault c d i tag) c
      (with_stored c (record { dataset = d; id = i; content = content })
      (record { dataset = d; name = tag; artifact = i })) new r)
      (is ∙ ap artifact_id counted) told)

  -- with one artifact and its tag more
  pushed : (a : Artifact) (t : Tag) → a.id ≡ artifact_id (length c.artifacts) → t.dataset ≡ a.dataset
      → t.artifact ≡ a.id
      → IsNumberedCatalog (with_tag (with_artifact c a) t)
  pushed a t id dataset artifact = record {
    ids = λ n b h.
        ⊎_elim (numbered.ids n b)
        (λ last. ap (λ (x : Artifact). x.id) (sym last.1) ∙ id ∙ ap artifact_id (sym last.0))
        (get_pushed c.artifacts a n b h);
    tags = λ n b h.
        ⊎_elim (λ old.
        let first = numbered.tags n b old in
        let within : n < length c.tags = slice_get_within c.tags n first.0 first.1 in
        (first.0, get_before c.tags t n within ∙ first.1, first.2, first.3))
        (λ last.
        let place : n ≡ length c.tags = last.0 ∙ sym numbered.as_many in (
          t,
          ap (slice_get (c.tags ++ t ∷ [])) place ∙ get_last c.tags t,
          dataset ∙ ap (λ (x : Artifact). x.dataset) last.1,
          artifact ∙ ap (λ (x : Artifact). x.id) last.1,
        ))
        (get_pushed c.artifacts a n b h);
    as_many =
        length-append c.tags (t ∷ []) ∙ ap (λ k. k + 1) numbered.as_many ∙ sym (length-append c.artifacts (a ∷ []));
  }

-- the numbers of artifacts, where reservations alone changed
pub numbered_grant : (c : CatalogLists) (d : DatasetId) (tag owner : Text) (g : Grant) → IsNumberedCatalog c
    → IsNumberedCatalog (after_grant c d tag owner g)
numbered_grant c d tag owner (grant.HeldBy holder expiry) numbered = numbered
numbered_grant c d tag owner (grant.Granted expiry) numbered =
    record { ids = numbered.ids; tags = numbered.tags; as_many = numbered.as_many }

abbrev with_place : CatalogLists → DatasetId → Bool → CatalogLists
with_place c d has = cond has c (with_dataset c d)

pub numbered_stored : (c : CatalogLists) (d : DatasetId) (tag : Text) (content : LiteralMap) → IsNumberedCatalog c
    → IsNumberedCatalog (with_artifact_under c d tag content)
numbered_stored c d tag content numbered = by (has_dataset c d)
  where
    a : Artifact
    a = record { dataset = d; id = artifact_id (length c.artifacts); content = content }

    t : Tag
    t = record { dataset = d; name = tag; artifact = artifact_id (length c.artifacts) }

    by : (b : Bool) → IsNumberedCatalog (with_tag (with_artifact (with_place c d b) a) t)
    by true = pushed c numbered a t refl refl refl
    by false =
        pushed (with_dataset c d) (record { ids = numbered.ids; tags = numbered.tags; as_many = numbered.as_many }) a t
        refl refl refl

pub reserved_stored : (c : CatalogLists) (d : DatasetId) (tag : Text) (content : LiteralMap)
    → (with_artifact_under c d tag content).reservations ≡ c.reservations
reserved_stored c d tag content = by (has_dataset c d)
  where
    by : (b : Bool) → (with_place c d b).reservations ≡ c.reservations
    by true = refl
    by false = refl
