-- What a plan says of a commit.
use Rattle.std.proofs.Common.{◌≡◌, ℕ, suc, ◌+◌, ◌-◌, ◌*◌, ◌<◌, ◌≤◌, List, [], ◌∷◌, ◌++◌, length, append-nil, append_assoc, refl, sym, ap, subst, ◌∙◌, add-one, arith}
use Rattle.std.specs.Prelude.{Bool, true, Option, Some, None, Result, Ok, Err, IfOk, IfSome, IsErrAnd}
use Rattle.std.specs.Ordering.{nat_cmp}
use Rattle.std.specs.FinMap.{FinMap}
use Rattle.commit_laws.proofs.next_index.Flags.{ascend_items}
use Rattle.verdict.specs.Image.{range}
use Rattle.verdict.specs.declared.finding.Finding.{Finding}
use Rattle.super_reader.specs.declared.Super.{Super}
use Rattle.write_cache.specs.Cache.{overlaid}
use Rattle.live_index.specs.Table.{pairs_of}
use Rattle.block_source.specs.declared.halt.Halt.{Halt}
use Rattle.block_source.specs.declared.halt.Halt.TheVariants.{Found as Halted}
use Rattle.records.specs.Contents.{contents, superblock_in}
use Rattle.records.proofs.Accepted.{accepted_superblock}
use Rattle.tree_laws.specs.Shared.{are_read_alike}
use Rattle.touched_blocks.specs.Touched.{written_in}
use Rattle.tree_change.specs.Change.{BasesStand, IsDifference, ReadsFew}
use Rattle.tree_change.specs.FewLooks.{LooksFew, MovesFew}
use Rattle.tree_change.specs.declared.change.Change.{Change}
use Rattle.tree_change.specs.declared.change.Diff.{Diff}
use Rattle.tree_change.specs.declared.change.Diff.TheVariants.{Found, Change as Changed}
use Rattle.records.specs.Part.{Located}
use Rattle.records.specs.declared.rec.ItemAt.{ItemAt}
use Rattle.change_records.specs.Affected.{AreAffected, context_with}
use Rattle.change_records.specs.Changes.{Ascend}
use Rattle.change_records.specs.Refs.{is_named}
use Rattle.change_records.specs.Spans.{AreItemsOf}
use Rattle.change_records.specs.SumFree.{flags_after}
use Rattle.change_records.specs.declared.changes.ItemChange.{ItemChange}
use Rattle.change_records.specs.declared.changes.ItemChange.TheVariants.{Added, Removed}
use Rattle.change_records.specs.declared.item_ref.ItemRef.{ItemRef}
use Rattle.commit_laws.specs.Commit.{AreTheAffected, Known, context_by}
use Rattle.commit_laws.specs.Paired.{SayChanges, added_from, removed_from}
use Rattle.commit_judge.specs.Flags.{free_in, full_in}
use Rattle.commit_judge.specs.Fresh.{IsFresh}
use Rattle.commit_judge.specs.Index.{IndexStands, known}
use Rattle.commit_judge.specs.Plan.{IsPlanOf, IsPlanned, commit_in}
use Rattle.commit_judge.specs.Work.{FindsByFew, PlansByFew}
use Rattle.commit_judge.specs.declared.fresh.Fresh.{Fresh}
use Rattle.commit_judge.specs.declared.index.Index.{Index}
use Rattle.commit_judge.specs.declared.plan.Plan.{Plan}
use Rattle.commit_judge.proofs.plans.Fresh.{has_room, no_super}

-- of the changes that take away items, the first and the others
removed_next : (at n left : ℕ) → n ≡ suc left → removed_from at n ≡ Removed at ∷ removed_from (at + 1) left
unfolding removed_from
removed_next at n left is = subst (λ k. removed_from at k ≡ Removed at ∷ removed_from (at + 1) left) (sym is) (rw add-one refl)

added_next : (at n left : ℕ) → n ≡ suc left → added_from at n ≡ Added at ∷ added_from (at + 1) left
unfolding added_from
added_next at n left is = subst (λ k. added_from at k ≡ Added at ∷ added_from (at + 1) left) (sym is) (rw add-one refl)

-- changes that are put behind others one after the other
one_more : (now after rest left : List ItemChange) (change : ItemChange) → after ≡ now ++ change ∷ [] → rest ≡ change ∷ left
    → after ++ left ≡ now ++ rest
one_more now after rest left change put first =
    ap (λ xs. xs ++ left) put ∙ append_assoc now (change ∷ []) left ∙ ap (λ xs. now ++ xs) (sym first)

pub removed_more : (before now after : List ItemChange) (at n : ℕ) → at < n → now ++ removed_from at (n - at) ≡ before ++ removed_from 0 n
    → after ≡ now ++ Removed at ∷ [] → after ++ removed_from (at + 1) (n - (at + 1)) ≡ before ++ removed_from 0 n
removed_more before now after at n less so put =
    one_more now after _ _ (Removed at) put (removed_next at (n - at) (n - (at + 1)) (omega arith)) ∙ so

pub added_more : (before now after : List ItemChange) (at n : ℕ) → at < n → now ++ added_from at (n - at) ≡ before ++ added_from 0 n
    → after ≡ now ++ Added at ∷ [] → after ++ added_from (at + 1) (n - (at + 1)) ≡ before ++ added_from 0 n
added_more before now after at n less so put =
    one_more now after _ _ (Added at) put (added_next at (n - at) (n - (at + 1)) (omega arith)) ∙ so

-- once all are put, none is left
pub removed_all : (before now : List ItemChange) (at n : ℕ) → n ≤ at → now ++ removed_from at (n - at) ≡ before ++ removed_from 0 n
    → now ≡ before ++ removed_from 0 n
unfolding removed_from
removed_all before now at n end so =
    let none : n - at ≡ 0 = omega arith in
    sym (append-nil now) ∙ ap (λ k. now ++ removed_from at k) (sym none) ∙ so

pub added_all : (before now : List ItemChange) (at n : ℕ) → n ≤ at → now ++ added_from at (n - at) ≡ before ++ added_from 0 n
    → now ≡ before ++ added_from 0 n
unfolding added_from
added_all before now at n end so =
    let none : n - at ≡ 0 = omega arith in
    sym (append-nil now) ∙ ap (λ k. now ++ added_from at k) (sym none) ∙ so

-- the kept items that post otherwise, by what is found of them
pub affected_by : {A E : Type 0} (alike : Bool) (k : Known) (fresh : Super) (change : Change) (changes : List ItemChange) (old new : List ItemAt)
    (names : A → List ItemRef) (result : Result A E)
    → alike ≡ true → old ≡ change.old_items.items → new ≡ change.new_items.items
    → ((items : List Located) → AreItemsOf k.sup.nodesize k.spans items → IfOk result (λ refs. AreAffected k.pairs (context_by k)
    (context_with change.map k.sup.nodesize (flags_after old new changes k.free)) (is_named old new changes) items (names refs)))
    → IfOk result (λ refs. AreTheAffected alike k (record { fresh = fresh; change = change; changes = changes; refs = names refs }))
affected_by alike k fresh change changes old new names (Err e) is old_is new_is found = tt
affected_by alike k fresh change changes old new names (Ok refs) is old_is new_is found =
    rw (is, ← old_is, ← new_is) (λ items of. found items of)

-- one read for each old block and two for each new one are at most two for each
twice_few : (before after olds news : ℕ) → after ≤ before + olds + 2 * news → after ≤ before + 2 * (olds + news)
twice_few before after olds news few = omega (arith, few)

module _ {L : Type 0} (index : Index L) (pending : FinMap nat_cmp ℕ) where
  -- what is known of the superblock of the judged image
  abbrev FreshBy : Result Fresh Finding → Type 0
  FreshBy read = (image : List ℕ) → 69632 ≤ length image → index.raw ≡ range 65536 4096 image → IsFresh image pending read

  -- what the difference of the two images is, by an answer
  abbrev Differs : Super → ℕ → ℕ → Diff → List ℕ → Type 0
  Differs fresh before after diff image =
      BasesStand image index.sup index.map index.roots.items (free_in index.sum_free) (full_in index.full) (pairs_of index.live)
      → superblock_in (overlaid pending 0 image) ≡ Ok fresh
      → IsDifference image (overlaid pending 0 image) (written_in pending) diff × ReadsFew before after diff

  -- the superblock lies in an accepted image
  room : (image : List ℕ) → IndexStands image index → 69632 ≤ length image
  room image stands =
      let some = accepted_superblock image stands.known.bases.generation stands.known.bases.accepted in
      has_room image some.0 some.1

  -- the finding of the superblock, and that of the trees
  pub super_found : (told : Option (List ℕ)) (before after : ℕ) (result : Result Plan Halt) (finding : Finding) → FreshBy (Err finding)
      → IsErrAnd result (λ halt. halt ≡ Halted finding)
      → IfSome told (λ image. IndexStands image index → IsPlanned image pending (known index) before after result)
  super_found None before after result finding fresh is = tt
  super_found (Some image) before after (Ok plan) finding fresh is = absurd is
  super_found (Some image) before after (Err halt) finding fresh is = λ stands.
      subst (λ h. IsPlanned image pending (known index) before after (Err h)) (sym is)
      (no_super (overlaid pending 0 image) finding (fresh image (room image stands) stands.raw))

  pub tree_found : (told : Option (List ℕ)) (fresh : Fresh) (before after : ℕ) (diff : Diff) (finding : Finding) → FreshBy (Ok fresh)
      → diff ≡ Found finding → IfSome told (Differs fresh.sup before after diff)
      → IfSome told (λ image. IndexStands image index → contents (overlaid pending 0 image) ≡ Err finding)
  tree_found None fresh before after diff finding super is gives = tt
  tree_found (Some image) fresh before after diff finding super is gives = λ stands.
      (subst (λ d. Differs fresh.sup before after d image) is gives stands.known.bases (super image (room image stands) stands.raw).1).0

  -- the plan, by the superblock, by what changes, by the changes between the items and by the kept items
  pub planned : (told : Option (List ℕ)) (fresh : Fresh) (before after : ℕ) (diff : Diff) (change : Change) (plan : Plan) → FreshBy (Ok fresh)
      → diff ≡ Changed change → IfSome told (Differs fresh.sup before after diff)
      → plan.raw ≡ fresh.raw → plan.sup ≡ fresh.sup → plan.change ≡ change
      → (Ascend plan.change.old_items.items → Ascend plan.change.new_items.items
      → SayChanges (are_read_alike index.sup plan.sup) plan.change.old_items.items plan.change.new_items.items plan.changes.items)
      → AreTheAffected (are_read_alike index.sup plan.sup) (known index) (commit_in plan)
      → IfSome told (λ image. IndexStands image index → IsPlanOf image pending (known index) before after plan)
  planned None fresh before after diff change plan super what gives raw_is sup_is change_is say affected = tt
  planned (Some image) fresh before after diff change plan super what gives raw_is sup_is change_is say affected = λ stands.
      let judged = overlaid pending 0 image in
      let is = super image (room image stands) stands.raw in
      let both = subst (λ d. Differs fresh.sup before after d image) what gives stands.known.bases is.1 in
      let differs : IsDifference image judged (written_in pending) (Changed plan.change) =
      subst (λ c. IsDifference image judged (written_in pending) (Changed c)) (sym change_is) both.0 in
      record {
        raw = raw_is ∙ is.0;
        commit = record {
          super_is = is.1 ∙ ap Ok (sym sup_is);
          change_is = differs;
          changes_are = say (ascend_items plan.change.old_items.items differs.4.old_items.ascends)
              (ascend_items plan.change.new_items.items differs.4.new_items.ascends);
          refs_are = affected;
        };
        reads = subst (λ c. after ≤ before + 2 * (length c.old_blocks.items + length c.new_blocks.items)) (sym change_is)
            (twice_few before after (length change.old_blocks.items) (length change.new_blocks.items) both.1);
      }

  -- the looks to make a plan, by those to find what changes and those to find the kept items
  pub few_planned : (told : Option (List ℕ)) (fresh : Fresh) (first middle last : ℕ) (diff : Diff) (change : Change) (plan : Plan) → FreshBy (Ok fresh)
      → diff ≡ Changed change
      → LooksFew told pending index.sup index.map index.roots.items (free_in index.sum_free) (full_in index.full) (pairs_of index.live) fresh.sup first middle diff
      → MovesFew told pending index.sup index.map index.roots.items (free_in index.sum_free) (full_in index.full) (pairs_of index.live) fresh.sup diff
      → plan.change ≡ change → FindsByFew (known index) (commit_in plan) middle last
      → IfSome told (λ image. IndexStands image index → PlansByFew image pending (known index) (commit_in plan) first last)
  few_planned None fresh first middle last diff change plan super what looks moves change_is finds = tt
  few_planned (Some image) fresh first middle last diff change plan super what looks moves change_is finds = λ stands.
      let judged = overlaid pending 0 image in
      let is = super image (room image stands) stands.raw in
      let same : diff ≡ Changed plan.change = what ∙ ap Changed (sym change_is) in
      let few =
      subst (λ d. LooksFew (Some image) pending index.sup index.map index.roots.items (free_in index.sum_free) (full_in index.full) (pairs_of index.live) fresh.sup first middle d)
      same looks in
      let few_moves =
      subst (λ d. MovesFew (Some image) pending index.sup index.map index.roots.items (free_in index.sum_free) (full_in index.full) (pairs_of index.live) fresh.sup d) same moves in
      record {
        middle = middle;
        differs = λ old new was now pieces are. few pieces are stands.known.bases is.1 old new was now;
        moved = λ old new was now. few_moves stands.known.bases is.1 old new was now;
        finds = finds;
      }
