-- What shown sectors come to.
use Rattle.std.proofs.Common.{◌≡◌, ℕ, ◌+◌, Bool, true, false, cond, List, [], ◌∷◌, ◌++◌, refl, ap, sym, ◌∙◌, arith, subst}
use Rattle.std.specs.Prelude.{Option, Some, None, Result, Ok, Err, OnOk}
use Rattle.std.proofs.Math.Path.{fun_ext}
use Rattle.verdict.specs.declared.place.Chunk.{Chunk}
use Rattle.sector_runs.specs.Runs.{SectorSums, amount_in, amount_of, with_run}
use Rattle.records.specs.Part.{Located, Part}
use Rattle.records.specs.Part.Part.{FileExtentPart}
use Rattle.fs_items.specs.declared.file_extent.FileExtent.{FileExtent}
use Rattle.sector_runs.specs.declared.run.SectorRun.{SectorRun}
use Rattle.records.specs.SpacePostings.{sector_sum}
use Rattle.account_tally.specs.declared.shown.Shown.{Shown}
use Rattle.account_tally.specs.Sums.{Frees, SumsByFree, context_with, none_free, with_sectors}
use Rattle.account_tally.specs.Kept.{shown_sums}
use Rattle.account_tally.specs.Ranges.{inode_in, range_run}
use Rattle.account_tally.proofs.Families.{range_sums, sectors_alike}

-- one more
pub shown_more : (shown : List Shown) (one : Shown) (free : Frees) (address field : ℕ)
    → shown_sums (shown ++ one ∷ []) free address field ≡ shown_sums shown free address field + cond (free one.tree one.ino) 0 (amount_of (range_run one) address field)
shown_more [] one free address field = omega arith
shown_more (other ∷ shown) one free address field =
    let later = shown_more shown one free address field in
    omega (arith, later)

-- what has the inode of a range of a file is one
shown_range : (part : Part) (ino : ℕ) → inode_in part ≡ Some ino → (range : FileExtent) × (part ≡ FileExtentPart range) × (range.key.objectid ≡ ino)
shown_range (FileExtentPart range) ino is = (range, refl, cc is)
shown_range other ino is = absurd (cc is)

module _ (chunks : List Chunk) (nodesize : ℕ) (old new : SumsByFree) (one : Located) (run : Option SectorRun)
    (sums : (address field : ℕ) → sector_sum (context_with chunks nodesize none_free) one.tree one.part address field ≡ amount_in run address field) where
  -- a record that is no range of a file
  pub with_other : inode_in one.part ≡ None
      → ((free : Frees) (address field : ℕ) → new free address field ≡ old free address field + amount_in run address field)
      → new ≡ with_sectors chunks nodesize old one
  with_other other is = fun_ext (λ free. fun_ext (λ address. fun_ext (λ field.
      is free address field
      ∙ ap (λ n. old free address field + n) (sym (sums address field) ∙ sectors_alike chunks nodesize free one.tree one.part address field other))))

  -- a range of a file
  with_range : (range : FileExtent) → one.part ≡ FileExtentPart range
      → ((free : Frees) (address field : ℕ) → new free address field ≡ old free address field + cond (free one.tree range.key.objectid) 0 (amount_in run address field))
      → new ≡ with_sectors chunks nodesize old one
  with_range range part is = fun_ext (λ free. fun_ext (λ address. fun_ext (λ field.
      (let first : sector_sum (context_with chunks nodesize none_free) one.tree (FileExtentPart range) address field ≡ amount_in run address field =
      subst (λ (p : Part). sector_sum (context_with chunks nodesize none_free) one.tree p address field ≡ amount_in run address field) part (sums address field) in
      let whole : cond (free one.tree range.key.objectid) 0 (amount_in run address field) ≡ sector_sum (context_with chunks nodesize free) one.tree one.part address field =
      ap (λ n. cond (free one.tree range.key.objectid) 0 n) (sym first)
      ∙ sym (range_sums chunks nodesize free one.tree range address field)
      ∙ ap (λ (p : Part). sector_sum (context_with chunks nodesize free) one.tree p address field) (sym part) in
      is free address field ∙ ap (λ n. old free address field + n) whole))))

  pub with_shown : (ino : ℕ) → inode_in one.part ≡ Some ino
      → ((free : Frees) (address field : ℕ) → new free address field ≡ old free address field + cond (free one.tree ino) 0 (amount_in run address field))
      → new ≡ with_sectors chunks nodesize old one
  with_shown ino part is =
      let found = shown_range one.part ino part in
      with_range found.0 found.1 (λ free address field. is free address field
      ∙ ap (λ i. old free address field + cond (free one.tree i) 0 (amount_in run address field)) (sym found.2))

-- a record that says nothing of sectors
nothing : (b : Bool) (n : ℕ) → n ≡ n + cond b 0 0
nothing true n = omega arith
nothing false n = omega arith

none_by : (found : Option ℕ) (chunks : List Chunk) (nodesize : ℕ) (old : SumsByFree) (one : Located) → inode_in one.part ≡ found
    → ((address field : ℕ) → sector_sum (context_with chunks nodesize none_free) one.tree one.part address field ≡ amount_in None address field)
    → old ≡ with_sectors chunks nodesize old one
none_by None chunks nodesize old one is sums = with_other chunks nodesize old old one None sums is (λ free address field. omega arith)
none_by (Some ino) chunks nodesize old one is sums = with_shown chunks nodesize old old one None sums ino is (λ free address field. nothing (free one.tree ino) (old free address field))

pub with_none : (chunks : List Chunk) (nodesize : ℕ) (old : SumsByFree) (one : Located)
    → ((address field : ℕ) → sector_sum (context_with chunks nodesize none_free) one.tree one.part address field ≡ amount_in None address field)
    → old ≡ with_sectors chunks nodesize old one
with_none chunks nodesize old one sums = none_by (inode_in one.part) chunks nodesize old one refl sums

-- what follows from a fact of an answer
pub on_ok : {T E A B : Type 0} (r : Result T E) → OnOk r A → (A → B) → OnOk r B
on_ok (Ok x) a gives = gives a
on_ok (Err e) a gives = tt

-- a run is added to the sums
pub added_run : (old new : SectorSums) (run : SectorRun) (shown : List Shown) (free : Frees) (address field : ℕ) → new ≡ with_run old run
    → new address field + shown_sums shown free address field ≡ (old address field + shown_sums shown free address field) + amount_in (Some run) address field
added_run old new run shown free address field is =
    let here : new address field ≡ old address field + amount_of run address field = ap (λ (s : SectorSums). s address field) is in
    omega (arith, here)

-- what is shown loses its last, and the sums gain it, or it is left out
module _ (before after : SectorSums) (shown : List Shown) (last : Shown) (free : Frees) (address field : ℕ) where
  pub moved : (is_free : Bool) → free last.tree last.ino ≡ is_free → is_free ≡ false → after ≡ with_run before (range_run last)
      → after address field + shown_sums shown free address field ≡ before address field + shown_sums (shown ++ last ∷ []) free address field
  moved is_free is none added =
      let here : after address field ≡ before address field + amount_of (range_run last) address field = ap (λ (s : SectorSums). s address field) added in
      let more = shown_more shown last free address field in
      let amount : cond (free last.tree last.ino) 0 (amount_of (range_run last) address field) ≡ amount_of (range_run last) address field = ap (λ b. cond b 0 (amount_of (range_run last) address field)) (is ∙ none) in
      omega (arith, here, more, amount)

  pub left_out : (is_free : Bool) → free last.tree last.ino ≡ is_free → is_free ≡ true
      → before address field + shown_sums shown free address field ≡ before address field + shown_sums (shown ++ last ∷ []) free address field
  left_out is_free is some =
      let more = shown_more shown last free address field in
      let amount : cond (free last.tree last.ino) 0 (amount_of (range_run last) address field) ≡ 0 = ap (λ b. cond b 0 (amount_of (range_run last) address field)) (is ∙ some) in
      omega (arith, more, amount)

-- nothing is shown
pub none_left : (sums : SectorSums) (shown : List Shown) (free : Frees) → shown ≡ [] → (λ address field. sums address field + shown_sums shown free address field) ≡ sums
none_left sums shown free is = fun_ext (λ address. fun_ext (λ field.
    (let none : shown_sums shown free address field ≡ 0 = ap (λ s. shown_sums s free address field) is in omega (arith, none))))
