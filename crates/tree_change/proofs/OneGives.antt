-- What changes in a tree, from what is known of its two walks.
use Rattle.std.proofs.Common.{◌≡◌, ℕ, ◌+◌, ◌*◌, true, not, List, [], ◌∷◌, length, suc, refl, ap, sym, subst, ◌∙◌}
use Rattle.std.specs.Prelude.{Option, Some, None, Result, Ok, Err}
use Rattle.std.specs.List.{AllByRecursion, filter}
use Rattle.std.specs.Ordering.{nat_cmp}
use Rattle.std.specs.FinMap.{FinMap}
use Rattle.tree_change.proofs.Free.{pairs_seen}
use Rattle.tree_change.proofs.Vanished.{blocks_count}
use Rattle.verdict.specs.Rules.{and_then}
use Rattle.verdict.specs.declared.finding.Finding.{Finding}
use Rattle.live_index.specs.Pairs.{Pairs}
use Rattle.live_index.specs.declared.live.Live.{Live}
use Rattle.node_reader.specs.Stored.{Stored, stored_in}
use Rattle.node_reader.specs.declared.expect.Expect.{Expect}
use Rattle.records.specs.Seen.{Seen}
use Rattle.records.specs.Seen.Seen.{BlockSeen, ItemSeen, PointerSeen}
use Rattle.records.specs.Walk.{Records, each, walk_in, walk_of}
use Rattle.records.specs.WalkLaw.{visited}
use Rattle.tree_laws.specs.Ending.{ends_in, ends_of}
use Rattle.tree_laws.specs.Keeping.{live_at}
use Rattle.tree_laws.specs.KeepingWalk.{skip_in}
use Rattle.tree_laws.specs.OldSide.{kept_at}
use Rattle.tree_laws.specs.LivePairs.{Walked, live_in}
use Rattle.tree_laws.specs.Meeting.{met_in, met_of}
use Rattle.tree_laws.specs.MergedLaw.{IsInOrder, begins_before, chunks_seen, items, roots_seen, root_before}
use Rattle.tree_laws.specs.MovedLaw.{is_other_than}
use Rattle.tree_laws.specs.ShiftedLaw.{is_shifted}
use Rattle.tree_laws.specs.SkipLaw.{IsSound}
use Rattle.tree_laws.specs.Skips.{nothing, part_of, unkept}
use Rattle.tree_laws.specs.Stops.{stops_of}
use Rattle.tree_laws.specs.Unshared.{AreOfPairs, is_block_seen, items_in}
use Rattle.tree_laws.proofs.Skipping.{skips}
use Rattle.tree_change.specs.Gathered.{Gathers, blocks_seen}
use Rattle.tree_change.specs.Merging.{chunks_left, roots_left}
use Rattle.tree_change.specs.OneTree.{ChangesTree, GivesTree, HasRecords, unchanged, side_of}
use Rattle.tree_change.specs.Walks.{Known, NewWalk, Parts, Side, kept_by, lasts_by, listed_by, new_walk, old_or_none, parts_of, tree_parts}
use Rattle.tree_change.proofs.OneNew.{IsNew, met_is, moved_is, new_blocks, of_pairs}
use Rattle.tree_change.proofs.OneShifted.{shifted_kept}
use Rattle.tree_change.proofs.OneSupers.{unkept_fine}

module _ (image : List ℕ) (pending : FinMap nat_cmp ℕ) (old : Walked) (pairs : Pairs) (is : Side) (known : Known) (before : Option Expect)
    (now : Expect) where
  abbrev pub stored : Stored
  stored = stored_in is.image is.chunks is.sup.nodesize

  -- what the walk of the tree as it was gives, of which these are the records
  abbrev pub gathered : List Seen → Gathers
  gathered records = record { blocks = blocks_seen records; items = items records }

  -- what the walk of the tree as it is gives
  abbrev pub new_of : List Seen → NewWalk
  new_of records = record {
    read = gathered records;
    met = met_of (kept_by known) (listed_by known) is.sup stored now;
    ended = (ends_of (kept_by known) (listed_by known) (lasts_by known) is.sup stored now).blocks;
  }

  -- The walk of the tree as it was, if it was, has these records, also where both copies of its blocks are read.
  abbrev pub WalksWhole : List Expect → Option Expect → List Seen → Type 0
  WalksWhole stops None records = Unit {0}
  WalksWhole stops (Some e) records =
      skip_in (kept_at known.pairs stops known.under) (listed_by known) old.sup old.chunks e image ≡ Ok records

  -- What is known of the two walks of a tree, where the whole new one has these records.
  pub record AreBoth (news : List Seen) : Type 0 where
    pub new : IsNew pairs (kept_by known) (listed_by known) (lasts_by known) (unchanged image pending old is news) is.sup stored now news
    pub olds : List Seen
    pub gone : List Seen
    pub has : HasRecords image old before olds
    pub old_is : old_or_none known (stops_of (kept_by known) (listed_by known) is.sup stored now) (side_of image old) before ≡ Ok (gathered gone)
    pub whole_is : WalksWhole (stops_of (kept_by known) (listed_by known) is.sup stored now) before gone
    pub old_pairs : AreOfPairs pairs (filter (λ live. not (unchanged image pending old is news live)) (live_in olds)) olds gone
    pub shifts : AllByRecursion (λ v. unchanged image pending old is news (live_at is.sup stored v) ≡ true
        → is_shifted (live_in olds) (live_at is.sup stored v) ≡ is_other_than (pairs v.tree v.address) (live_at is.sup stored v))
        (visited is.sup stored now)
    pub chunks : (come : List Seen) → unkept (kept_by known) nothing is.sup stored now ≡ Ok come → now.tree ≡ 3
        → IsInOrder begins_before (chunks_left (chunks_seen olds) (items gone) (items come)) (chunks_seen news)
    pub roots : (come : List Seen) → unkept (kept_by known) nothing is.sup stored now ≡ Ok come → now.tree ≡ 1
        → IsInOrder root_before (roots_left (roots_seen olds) (items gone) (items come)) (roots_seen news)

  -- the new walk, by the records without those of kept blocks
  new_is : IsSound now.tree (kept_by known) nothing (listed_by known) is.sup stored
      → new_walk known is now ≡ and_then (unkept (kept_by known) nothing is.sup stored now) (λ records. Ok (new_of records))
  unfolding new_walk skip_in met_in ends_in
  new_is sound =
      ap (λ records. and_then records (λ records. Ok (new_of records))) (skips (kept_by known) nothing (listed_by known) is.sup stored now sound)

  parts_are : (news : List Seen) → (both : AreBoth news) → (come : List Seen) → unkept (kept_by known) nothing is.sup stored now ≡ Ok come
      → tree_parts pairs known (side_of image old) is before now ≡ Ok (parts_of pairs (new_of come) (gathered both.gone))
  unfolding tree_parts
  parts_are news both come come_is =
      let was = side_of image old in
      ap (λ walk. and_then walk (λ new. and_then (old_or_none known new.met was before) (λ old. Ok (parts_of pairs new old))))
      (new_is both.new.sound ∙ ap (λ records. and_then records (λ records. Ok (new_of records))) come_is)
      ∙ ap (λ walk. and_then walk (λ old. Ok (parts_of pairs (new_of come) old)))
      (ap (λ met. old_or_none known met was before)
      (met_is pairs (kept_by known) (listed_by known) (lasts_by known) (unchanged image pending old is news) is.sup stored now news both.new come
      come_is)
      ∙ both.old_is)

  changes : (news : List Seen) → (both : AreBoth news) → (come : List Seen) → unkept (kept_by known) nothing is.sup stored now ≡ Ok come
      → ChangesTree image pending old is now both.olds news (parts_of pairs (new_of come) (gathered both.gone))
  changes news both come come_is =
      let shared = unchanged image pending old is news in
      let fresh = λ (live : Live). not (shared live) in
      let new = both.new in
      let here = of_pairs pairs (kept_by known) (listed_by known) (lasts_by known) shared is.sup stored now news new come come_is in
      let old_are : parts.old_blocks ≡ filter fresh (live_in both.olds) = sym (pairs_seen pairs both.gone) ∙ both.old_pairs.blocks in
      let new_are : parts.new_blocks ≡ filter fresh (live_in news) =
      new_blocks pairs (kept_by known) (listed_by known) (lasts_by known) shared is.sup stored now news new come come_is in
      record {
        old_blocks = old_are;
        new_blocks = new_are;
        shifted = moved_is pairs (kept_by known) (listed_by known) (lasts_by known) shared is.sup stored now news new come come_is
            ∙ shifted_kept pairs (kept_by known) shared is.sup stored now (live_in both.olds) news new.is new.keeps both.shifts;
        old_items = both.old_pairs.items ∙ ap (λ lives. items_in lives both.olds) (sym old_are);
        new_items = here.items ∙ ap (λ lives. items_in lives news) (sym new_are);
        count = ap (λ n. n + 2 * length (blocks_seen come)) (blocks_count both.gone ∙ (both.old_pairs.count ∙ sym (ap length old_are)))
            ∙ ap (λ n. length parts.old_blocks + 2 * n) (blocks_count come ∙ (here.count ∙ sym (ap length new_are)));
        chunks = both.chunks come come_is;
        roots = both.roots come come_is;
      }
    where
      parts : Parts
      parts = parts_of pairs (new_of come) (gathered both.gone)

  -- so what the two walks give is what changes
  pub gives_tree : IsSound now.tree (kept_by known) nothing (listed_by known) is.sup stored
      → ((news : List Seen) → walk_of is.sup stored now ≡ Ok news → AreBoth news) → GivesTree image pending old pairs is known before now
  unfolding walk_in tree_parts
  gives_tree sound both = record {
    found = λ finding first. by_found finding (walk_of is.sup stored now) refl first;
    parts = λ parts given. by_parts parts (walk_of is.sup stored now) refl given;
  }
    where
      no_parts : (a : Parts) (finding : Finding) → Ok a ≡ Err finding → ⊥
      no_parts a finding is = cc

      some_parts : (a b : Parts) → (x : Result Parts Finding) → x ≡ Ok a → x ≡ Ok b → a ≡ b
      some_parts a b x is other = cc

      first_is : (finding : Finding) → walk_of is.sup stored now ≡ Err finding
          → tree_parts pairs known (side_of image old) is before now ≡ Err finding
      first_is finding walk =
          ap (λ walk. and_then walk (λ new. and_then (old_or_none known new.met (side_of image old) before) (λ old. Ok (parts_of pairs new old))))
          (new_is sound
          ∙ ap (λ records.
          and_then (and_then records (λ _. each (part_of (kept_by known) nothing is.sup stored) (visited is.sup stored now)))
          (λ records. Ok (new_of records))) walk)

      by_found : (finding : Finding) (walk : Records) → walk_of is.sup stored now ≡ walk
          → tree_parts pairs known (side_of image old) is before now ≡ Err finding → walk ≡ Err finding
      by_found finding (Err first) at given = let same = first_is first at in cc
      by_found finding (Ok news) at given =
          let come = unkept_fine (kept_by known) is.sup stored now news at in
          let given_parts = parts_are news (both news at) come.0 come.1 in
          absurd (cc)

      by_parts : (parts : Parts) (walk : Records) → walk_of is.sup stored now ≡ walk
          → tree_parts pairs known (side_of image old) is before now ≡ Ok parts
          → (olds : List Seen) × (news : List Seen) × HasRecords image old before olds × (walk ≡ Ok news)
          × ChangesTree image pending old is now olds news parts
      by_parts parts (Err first) at given = let same = first_is first at in absurd (cc)
      by_parts parts (Ok news) at given =
          let b = both news at in
          let come = unkept_fine (kept_by known) is.sup stored now news at in
          let same = some_parts (parts_of pairs (new_of come.0) (gathered b.gone)) parts (tree_parts pairs known (side_of image old) is before now)
          (parts_are news b come.0 come.1) given in
          (b.olds, news, b.has, refl, subst (ChangesTree image pending old is now b.olds news) same (changes news b come.0 come.1))
