-- The step that a commit makes from the records of an accepted image to those of the next.
use Rattle.std.proofs.Common.{◌≡◌, ℕ, Bool, true, false, List, length, map, refl, ap, sym, ◌∙◌, subst}
use Rattle.std.specs.Prelude.{Ok}
use Rattle.std.specs.List.{All, Contains}
use Rattle.std.specs.Ordering.{nat_cmp}
use Rattle.std.specs.FinMap.{FinMap}
use Rattle.std.proofs.Math.Path.{fun_ext}
use Rattle.commit_laws.proofs.named_items.Found.{all_of as each_of}
use Rattle.verdict.specs.declared.finding.Verdict.TheVariants.{Accept}
use Rattle.accounts.specs.Context.{Context, no_full}
use Rattle.accounts.specs.Sums.{total_of}
use Rattle.change_records.specs.Affected.{AreAffected, context_with}
use Rattle.change_records.specs.Refs.{is_named}
use Rattle.change_records.specs.SumFree.{flags_after}
use Rattle.change_records.specs.declared.changes.ItemChange.{ItemChange}
use Rattle.change_records.specs.declared.item_ref.ItemRef.{ItemRef}
use Rattle.change_records.proofs.Merge.{contains_none}
use Rattle.records.specs.Contents.{root_items_in}
use Rattle.records.specs.Context.{has_sum_free}
use Rattle.records.specs.FullCheck.{full_check}
use Rattle.records.specs.Part.{Located}
use Rattle.tree_laws.specs.LivePairs.{Walked, live_in, table_of, walked}
use Rattle.tree_laws.specs.Shared.{are_read_alike}
use Rattle.span_index.specs.Sectors.{times_of_span}
use Rattle.super_reader.specs.declared.Super.{Super}
use Rattle.touched_blocks.specs.Touched.{written_in}
use Rattle.tree_change.specs.Change.{IsChange}
use Rattle.tree_change.specs.Gathered.{located_item}
use Rattle.tree_change.specs.declared.change.Change.{Change}
use Rattle.write_cache.specs.Cache.{overlaid}
use Rattle.commit_laws.specs.Blocks.{BlocksLaw, HasOwnName}
use Rattle.commit_laws.specs.Commit.{AreTheAffected, Commit, Known, came_by, gone_by}
use Rattle.commit_laws.specs.Flags.{FlagsLaw}
use Rattle.commit_laws.specs.Items.{ItemsLaw, ItemsStand, items_of}
use Rattle.commit_laws.specs.Judged.{JudgedLaw}
use Rattle.commit_laws.specs.Kept.{FoundLaw}
use Rattle.commit_laws.specs.Paired.{AllChangesLaw, SayChanges, came_items, gone_items}
use Rattle.commit_laws.specs.Same.{HeldLaw, records_of}
use Rattle.commit_laws.specs.Sectors.{RunsLaw, SectorsLaw}
use Rattle.commit_laws.specs.Steps.{IsStep, PostsLaw, SpansLaw, StepLaw, WholeStepLaw, all_posts, change_records, spans_of}
use Rattle.commit_laws.specs.Tables.{TableMovedLaw}
use Rattle.commit_laws.proofs.whole_commits.Named.{AreOtherwise, times_are}
use Rattle.volume_items.specs.declared.root_at.RootAt.{RootAt}

-- the other laws
pub record Laws : Type 0 where
  pub held : HeldLaw
  pub items : ItemsLaw
  pub blocks : BlocksLaw
  pub all_changes : AllChangesLaw
  pub found : FoundLaw
  pub step : StepLaw
  pub whole_step : WholeStepLaw
  pub posts : PostsLaw
  pub spans : SpansLaw
  pub sectors : SectorsLaw
  pub runs : RunsLaw
  pub judged : JudgedLaw
  pub flags : FlagsLaw
  pub table_moved : TableMovedLaw

-- the context of an image by its walks, and what is known of it
abbrev pub context_at : Walked → Context
context_at whole = context_with whole.chunks whole.sup.nodesize (has_sum_free (records_of whole))

abbrev pub known_at : Walked → List RootAt → Known
known_at whole roots = record {
  sup = whole.sup;
  chunks = whole.chunks;
  roots = roots;
  free = has_sum_free (records_of whole);
  full = no_full;
  pairs = table_of (live_in whole.seen);
  sums = total_of (all_posts (context_at whole) (records_of whole));
  spans = times_of_span (spans_of whole.sup.nodesize (records_of whole));
}

-- what a commit changes, with this superblock
abbrev pub commit_at : Super → Commit → Commit
commit_at sup c = record { fresh = sup; change = c.change; changes = c.changes; refs = c.refs }

-- an accepted image and the next, the walks of both, and what changes between them
pub record Between (image : List ℕ) (pending : FinMap nat_cmp ℕ) (old new : Walked) (change : Change) (changes : List ItemChange) : Type 0 where
  pub generation : ℕ
  pub accepted : full_check image ≡ Accept generation
  pub was : walked image ≡ Ok old
  pub is : walked (overlaid pending 0 image) ≡ Ok new
  pub change_is : IsChange old new (written_in pending) (length image) change
  pub roots_are : root_items_in new.sup new.chunks (overlaid pending 0 image) ≡ Ok change.roots.items
  pub says : SayChanges (are_read_alike old.sup new.sup) change.old_items.items change.new_items.items changes

module _ (laws : Laws) (image : List ℕ) (pending : FinMap nat_cmp ℕ) (old new : Walked) (olds : List RootAt) (c : Commit)
    (between : Between image pending old new c.change c.changes) where
  abbrev k : Known
  k = known_at old olds

  abbrev now : Commit
  now = commit_at new.sup c

  pub old_stand : ItemsStand old.sup.nodesize (items_of old)
  old_stand = laws.items image old between.was

  pub new_stand : ItemsStand new.sup.nodesize (items_of new)
  new_stand = laws.items (overlaid pending 0 image) new between.is

  pub own : All (HasOwnName (table_of (live_in old.seen))) (items_of old)
  own =
      each_of (HasOwnName (table_of (live_in old.seen))) (items_of old)
      (λ one has. laws.blocks image between.generation old (table_of (live_in old.seen)) one between.accepted between.was (λ tree address. refl) has)

  pub flags_are : (tree ino : ℕ) → has_sum_free (records_of new) tree ino
      ≡ flags_after c.change.old_items.items c.change.new_items.items c.changes (has_sum_free (records_of old)) tree ino
  flags_are tree ino =
      laws.flags image pending old new c.change c.changes tree ino between.was between.is old_stand new_stand between.change_is between.says

  -- the step, and that what is found posts otherwise
  pub record Stepped : Type 0 where
    pub step : IsStep (context_at old) (context_at new) (records_of old) (records_of new) (gone_by k now) (came_by now) c.refs
    pub otherwise : AreOtherwise (items_of old) c.refs

  step_alike : are_read_alike old.sup new.sup ≡ true → SayChanges true c.change.old_items.items c.change.new_items.items c.changes
      → AreTheAffected true k now → Stepped
  step_alike alike says affected =
      let named = is_named c.change.old_items.items c.change.new_items.items c.changes in
      let pairs = table_of (live_in old.seen) in
      let flags : flags_after c.change.old_items.items c.change.new_items.items c.changes (has_sum_free (records_of old)) ≡ has_sum_free (records_of new) =
      fun_ext (λ tree. fun_ext (λ ino. sym (flags_are tree ino))) in
      let all =
      affected (items_of old) (record { distinct = old_stand.distinct; lawful = old_stand.lawful; spans = times_are old.sup.nodesize old }) in
      let are : AreAffected pairs (context_at old) (context_with new.chunks old.sup.nodesize (has_sum_free (records_of new))) named (items_of old) c.refs =
      subst (λ (after : Context). AreAffected pairs (context_at old) after named (items_of old) c.refs)
      (λ i. context_with (between.change_is.map i) old.sup.nodesize (flags i)) all in
      let found =
      laws.found pairs old.chunks new.chunks old.sup.nodesize (has_sum_free (records_of old)) (has_sum_free (records_of new)) named (items_of old) c.refs
      old_stand own are in
      record {
        step =
            laws.step image pending old new c.change c.changes c.refs (has_sum_free (records_of old)) (has_sum_free (records_of new))
            between.was between.is old_stand new_stand between.change_is alike says found;
        otherwise = λ at has.
            let its = are.hold at has in
            let name = (own_of its.one its.among).one_name at its.name in (
              its.one,
              its.among,
              sym name,
              record {
                before = context_at old;
                after = context_with new.chunks old.sup.nodesize (has_sum_free (records_of new));
                differs = its.differs;
              },
            );
      }
    where
      own_of : (one : Located) → Contains (items_of old) one → HasOwnName (table_of (live_in old.seen)) one
      own_of one has = laws.blocks image between.generation old (table_of (live_in old.seen)) one between.accepted between.was (λ tree address. refl) has

  step_other : are_read_alike old.sup new.sup ≡ false → SayChanges false c.change.old_items.items c.change.new_items.items c.changes
      → AreTheAffected false k now → Stepped
  step_other other says none =
      let gone : gone_items c.change.old_items.items c.changes ≡ map located_item c.change.old_items.items =
      ap (gone_items c.change.old_items.items) says ∙ (laws.all_changes c.change.old_items.items c.change.new_items.items).0 in
      let came : came_items c.change.new_items.items c.changes ≡ map located_item c.change.new_items.items =
      ap (came_items c.change.new_items.items) says ∙ (laws.all_changes c.change.old_items.items c.change.new_items.items).1 in
      let whole = laws.whole_step image pending old new c.change (context_at old) (context_at new) between.was between.is between.change_is other in
      let by_refs =
      subst (λ (refs : List ItemRef). IsStep (context_at old) (context_at new) (records_of old) (records_of new)
      (change_records old.sup c.change.old_blocks.items (map located_item c.change.old_items.items))
      (change_records new.sup c.change.new_blocks.items (map located_item c.change.new_items.items)) refs) (sym none) whole in
      let by_gone =
      subst (λ (items : List Located). IsStep (context_at old) (context_at new) (records_of old) (records_of new)
      (change_records old.sup c.change.old_blocks.items items)
      (change_records new.sup c.change.new_blocks.items (map located_item c.change.new_items.items)) c.refs) (sym gone) by_refs in
      record {
        step =
            subst (λ (items : List Located). IsStep (context_at old) (context_at new) (records_of old) (records_of new)
            (gone_by k now) (change_records new.sup c.change.new_blocks.items items) c.refs) (sym came) by_gone;
        otherwise = λ at has. absurd (contains_none at (subst (λ refs. Contains refs at) none has));
      }

  step_by : (alike : Bool) → are_read_alike old.sup new.sup ≡ alike → SayChanges alike c.change.old_items.items c.change.new_items.items c.changes
      → AreTheAffected alike k now → Stepped
  step_by true = step_alike
  step_by false = step_other

  pub stepped : AreTheAffected (are_read_alike old.sup new.sup) k now → Stepped
  stepped affected = step_by (are_read_alike old.sup new.sup) refl between.says affected
