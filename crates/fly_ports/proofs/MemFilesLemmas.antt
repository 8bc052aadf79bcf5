-- What an append does to files in memory.
use Rattle.std.proofs.Common.{◌≡◌, ◌⊎◌, inl, inr, ℕ, zero, suc, ◌+◌, ◌-◌, ◌<◌, ◌≤◌, Bool, true, false, List, [], ◌∷◌, ◌++◌, length, get_or, set, take, Option, None, Some, refl, ◌∙◌, ap, subst, arith, ltb, leb, cond}
use mathlib.Core.Path.{fun_ext}
use Rattle.std.specs.Prelude.{bytes_eq, position, unwrap_or}
use Rattle.std.specs.List.{position_or_len}
use Rattle.std.proofs.lemmas.List.{take_all}
use Rattle.std.proofs.lemmas.Bool.{cases_Bool, leb-true, ltb-true, ltb-false}
use Rattle.std.proofs.lemmas.Slice.Eq.{bytes_eq-Decides}
use Rattle.fly_ports.specs.Files.{Contents, contents_with, known_with}
use Rattle.fly_ports.specs.MemFiles.{bytes_of, file_with, content_of, files_with, has_room}
use Rattle.fly_ports.specs.declared.memory_files.MemFile.{MemFile}

-- the file has this path
abbrev pub is_at : List ℕ → MemFile → Bool
is_at path file = bytes_eq file.path path

-- the room that is left in the first file of this path
abbrev pub room_left : List MemFile → List ℕ → ℕ
room_left [] path = 0
room_left (file ∷ files) path = cond (is_at path file) (file.room - length (bytes_of file)) (room_left files path)

abbrev pub has_path : List MemFile → List ℕ → Bool
has_path [] path = false
has_path (file ∷ files) path = cond (is_at path file) true (has_path files path)

-- the first file of the path, at its place
pub files_with-at : (files : List MemFile) (path bytes : List ℕ) (i : ℕ) (d : MemFile) → position_or_len (is_at path) files ≡ i → i < length files → files_with files path bytes ≡ set files i (file_with (get_or files i d) bytes)
files_with-at [] path bytes i d first within = absurd (omega arith)
files_with-at (file ∷ files) path bytes zero d first within = elim (cases_Bool (is_at path file)) [
  | inl hit ↦ rw hit refl
  | inr miss ↦ let none : 1 + position_or_len (is_at path) files ≡ 0 = rw miss at first in absurd (omega arith)
]
files_with-at (file ∷ files) path bytes (suc i) d first within = elim (cases_Bool (is_at path file)) [
  | inl hit ↦ let none : 0 ≡ suc i = rw hit at first in absurd (omega arith)
  | inr miss ↦ let later : 1 + position_or_len (is_at path) files ≡ suc i = rw miss at first in rw miss (ap (λ (l : List MemFile). file ∷ l) (files_with-at files path bytes i d (omega arith) (omega arith)))
]

pub has_room-at : (files : List MemFile) (path bytes : List ℕ) (i : ℕ) (d : MemFile) → position_or_len (is_at path) files ≡ i → i < length files → has_room files path bytes ≡ leb (length bytes) ((get_or files i d).room - length (bytes_of (get_or files i d)))
has_room-at [] path bytes i d first within = absurd (omega arith)
has_room-at (file ∷ files) path bytes zero d first within = elim (cases_Bool (is_at path file)) [
  | inl hit ↦ rw hit refl
  | inr miss ↦ let none : 1 + position_or_len (is_at path) files ≡ 0 = rw miss at first in absurd (omega arith)
]
has_room-at (file ∷ files) path bytes (suc i) d first within = elim (cases_Bool (is_at path file)) [
  | inl hit ↦ let none : 0 ≡ suc i = rw hit at first in absurd (omega arith)
  | inr miss ↦ let later : 1 + position_or_len (is_at path) files ≡ suc i = rw miss at first in rw miss (has_room-at files path bytes i d (omega arith) (omega arith))
]

-- what the first file of the path holds
pub content_of-at : (files : List MemFile) (path : List ℕ) (i : ℕ) (d : MemFile) → position_or_len (is_at path) files ≡ i → i < length files → content_of files path ≡ (get_or files i d).content
content_of-at [] path i d first within = absurd (omega arith)
content_of-at (file ∷ files) path zero d first within = elim (cases_Bool (is_at path file)) [
  | inl hit ↦ rw hit refl
  | inr miss ↦ let none : 1 + position_or_len (is_at path) files ≡ 0 = rw miss at first in absurd (omega arith)
]
content_of-at (file ∷ files) path (suc i) d first within = elim (cases_Bool (is_at path file)) [
  | inl hit ↦ let none : 0 ≡ suc i = rw hit at first in absurd (omega arith)
  | inr miss ↦ let later : 1 + position_or_len (is_at path) files ≡ suc i = rw miss at first in rw miss (content_of-at files path i d (omega arith) (omega arith))
]

pub has_path-none : (files : List MemFile) (path : List ℕ) → length files ≤ position_or_len (is_at path) files → has_path files path ≡ false
has_path-none [] path none = refl
has_path-none (file ∷ files) path none = elim (cases_Bool (is_at path file)) [
  | inl hit ↦ let first : suc (length files) ≤ 0 = rw hit at none in absurd (omega arith)
  | inr miss ↦ let rest : suc (length files) ≤ 1 + position_or_len (is_at path) files = rw miss at none in rw miss (has_path-none files path (omega arith))
]

-- where there is no such file, nothing changes
pub files_with-none : (files : List MemFile) (path bytes : List ℕ) → has_path files path ≡ false → files_with files path bytes ≡ files
files_with-none [] path bytes none = refl
files_with-none (file ∷ files) path bytes none = elim (cases_Bool (is_at path file)) [
  | inl hit ↦ let some : true ≡ false = rw hit at none in cc
  | inr miss ↦ let rest : has_path files path ≡ false = rw miss at none in rw miss (ap (λ (l : List MemFile). file ∷ l) (files_with-none files path bytes rest))
]

pub has_room-none : (files : List MemFile) (path bytes : List ℕ) → has_path files path ≡ false → has_room files path bytes ≡ false
has_room-none [] path bytes none = refl
has_room-none (file ∷ files) path bytes none = elim (cases_Bool (is_at path file)) [
  | inl hit ↦ let some : true ≡ false = rw hit at none in cc
  | inr miss ↦ let rest : has_path files path ≡ false = rw miss at none in rw miss (has_room-none files path bytes rest)
]

pub content_of-none : (files : List MemFile) (path : List ℕ) → has_path files path ≡ false → content_of files path ≡ None
content_of-none [] path none = refl
content_of-none (file ∷ files) path none = elim (cases_Bool (is_at path file)) [
  | inl hit ↦ let some : true ≡ false = rw hit at none in cc
  | inr miss ↦ let rest : has_path files path ≡ false = rw miss at none in rw miss (content_of-none files path rest)
]

-- the first file of a list, at the path that grows or at another
contents_with-same : (p q : List ℕ) (old : Option (List ℕ)) (more : List ℕ) (rest : Contents) → cond (bytes_eq p q) (Some (unwrap_or old [] ++ more)) (rest q) ≡ contents_with (λ r. cond (bytes_eq p r) old (rest r)) p more q
contents_with-same p q old more rest = rw ((bytes_eq-Decides p p).1 refl) (elim (cases_Bool (bytes_eq p q)) [ inl hit ↦ rw hit refl | inr miss ↦ rw miss refl ])

contents_with-first : (path p q : List ℕ) (old : Option (List ℕ)) (more : List ℕ) (rest : Contents) → bytes_eq p path ≡ true → cond (bytes_eq p q) (Some (unwrap_or old [] ++ more)) (rest q) ≡ contents_with (λ r. cond (bytes_eq p r) old (rest r)) path more q
contents_with-first path p q old more rest here =
    subst (λ (t : List ℕ). cond (bytes_eq p q) (Some (unwrap_or old [] ++ more)) (rest q) ≡ contents_with (λ r. cond (bytes_eq p r) old (rest r)) t more q) ((bytes_eq-Decides p path).0 here) (contents_with-same p q old more rest)

contents_with-later : (path p q : List ℕ) (old : Option (List ℕ)) (more : List ℕ) (rest : Contents) → bytes_eq p path ≡ false → cond (bytes_eq p q) old (contents_with rest path more q) ≡ contents_with (λ r. cond (bytes_eq p r) old (rest r)) path more q
contents_with-later path p q old more rest other = rw other (elim (cases_Bool (bytes_eq path q)) [
  | inl hit ↦ let off : bytes_eq p q ≡ false = subst (λ (t : List ℕ). bytes_eq p t ≡ false) ((bytes_eq-Decides path q).0 hit) other in rw (hit, off) refl
  | inr miss ↦ rw miss refl
])

-- where there is, its content grows by what there is room for
pub content_of-with : (files : List MemFile) (path bytes q : List ℕ) → has_path files path ≡ true → content_of (files_with files path bytes) q ≡ contents_with (content_of files) path (take (room_left files path) bytes) q
content_of-with [] path bytes q some = cc
content_of-with (file ∷ files) path bytes q some = elim (cases_Bool (is_at path file)) [
  | inl hit ↦
      let first = contents_with-first path file.path q file.content (take (file.room - length (bytes_of file)) bytes) (content_of files) hit in
      rw hit (rw hit at first)
  | inr miss ↦
      let rest : has_path files path ≡ true = rw miss at some in
      let later = contents_with-later path file.path q file.content (take (room_left files path) bytes) (content_of files) miss in
      rw miss (ap (λ (o : Option (List ℕ)). cond (bytes_eq file.path q) file.content o) (content_of-with files path bytes q rest) ∙ (rw miss at later))
]

-- all of it, where there is room for all
pub has_room-all : (files : List MemFile) (path bytes : List ℕ) → has_room files path bytes ≡ true → (has_path files path ≡ true) × (take (room_left files path) bytes ≡ bytes)
has_room-all [] path bytes fits = cc
has_room-all (file ∷ files) path bytes fits = elim (cases_Bool (is_at path file)) [
  | inl hit ↦
      let short : leb (length bytes) (file.room - length (bytes_of file)) ≡ true = rw hit at fits in
      rw hit (refl, take_all _ _ (leb-true _ _ short))
  | inr miss ↦ let rest : has_room files path bytes ≡ true = rw miss at fits in rw miss (has_room-all files path bytes rest)
]

pub known_with-all : (files : List MemFile) (path bytes : List ℕ) → has_room files path bytes ≡ true → Some (content_of (files_with files path bytes)) ≡ known_with (Some (content_of files)) path bytes
known_with-all files path bytes fits =
    let all = has_room-all files path bytes fits in
    ap (λ (held : Contents). Some held) (fun_ext (λ q. content_of-with files path bytes q all.0 ∙ ap (λ (t : List ℕ). contents_with (content_of files) path t q) all.1))

-- nothing, or a first part of the bytes
pub known_with-part : (files : List MemFile) (path bytes : List ℕ) → (Some (content_of (files_with files path bytes)) ≡ Some (content_of files)) ⊎ ((n : ℕ) × (Some (content_of (files_with files path bytes)) ≡ known_with (Some (content_of files)) path (take n bytes)))
known_with-part files path bytes = elim (cases_Bool (has_path files path)) [
  | inl some ↦ inr (room_left files path, ap (λ (held : Contents). Some held) (fun_ext (λ q. content_of-with files path bytes q some)))
  | inr none ↦ inl (ap (λ (l : List MemFile). Some (content_of l)) (files_with-none files path bytes none))
]

-- a place that was found or not, as the count of files before it
pub place-at : (files : List MemFile) (path : List ℕ) (i : ℕ) → Some i ≡ position (is_at path) files → (position_or_len (is_at path) files ≡ i) × (i < length files)
place-at files path i place = elim (cases_Bool (ltb (position_or_len (is_at path) files) (length files))) [
  | inl hit ↦
      let same : Some i ≡ Some (position_or_len (is_at path) files) = rw hit at place in
      let at : position_or_len (is_at path) files ≡ i = cc in
      let below = ltb-true _ _ hit in
      (at, omega arith)
  | inr miss ↦ let none : Some i ≡ None = rw miss at place in cc
]

pub place-none : (files : List MemFile) (path : List ℕ) → None ≡ position (is_at path) files → has_path files path ≡ false
place-none files path place = elim (cases_Bool (ltb (position_or_len (is_at path) files) (length files))) [
  | inl hit ↦ let some : None ≡ Some (position_or_len (is_at path) files) = rw hit at place in cc
  | inr miss ↦ has_path-none files path (ltb-false _ _ miss)
]
