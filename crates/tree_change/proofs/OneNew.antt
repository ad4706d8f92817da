-- What the walk of a tree as it is gives, which keeps the shared blocks: its blocks are the pairs that are not shared, and the kept ones that it
-- meets show the shared pairs that are shifted.
use Rattle.std.proofs.Common.{◌≡◌, ℕ, ◌-◌, ◌==◌, Bool, true, false, not, ◌&&◌, List, [], ◌∷◌, inl, inr, refl, ap, sym, subst, ◌∙◌}
use Rattle.std.proofs.lemmas.Bool.{eqb-true}
use Rattle.std.specs.Prelude.{Option, Some, None, is_some, Result, Ok, map, if◌then◌else◌}
use Rattle.std.specs.List.{AllByRecursion, cons_option, filter, filter_map, fold}
use Rattle.tree_laws.proofs.KnownShared.{one_with}
use Rattle.tree_change.proofs.Free.{pairs_seen}
use Rattle.touched_blocks.proofs.Among.{some_same}
use Rattle.verdict.proofs.Numbers.{itself}
use Rattle.verdict.proofs.Lists.{all_map}
use Rattle.verdict.specs.OnDisk.{key_same}
use Rattle.verdict.specs.Rules.{no_key}
use Rattle.verdict.specs.declared.finding.Finding.{Finding}
use Rattle.verdict.specs.declared.key.Key.{Key}
use Rattle.super_reader.specs.declared.Super.{Super}
use Rattle.live_index.specs.Pairs.{Pairs}
use Rattle.live_index.specs.declared.live.Live.{Live}
use Rattle.node_reader.specs.Stored.{CopyFault, Stored, block_in}
use Rattle.node_reader.specs.declared.expect.Expect.{Expect}
use Rattle.records.specs.Seen.{Seen}
use Rattle.records.specs.Seen.Seen.{BlockSeen, ItemSeen, PointerSeen}
use Rattle.records.specs.Walk.{block_at, walk_of}
use Rattle.records.specs.WalkLaw.{visited}
use Rattle.records.specs.declared.rec.WalkedBlock.{WalkedBlock}
use Rattle.tree_laws.specs.Ending.{Lasts, ends_of}
use Rattle.tree_laws.specs.EndsLaw.{ended_at, walked_of}
use Rattle.tree_laws.specs.Keeping.{OneOf, first_in, last_in, live_at, owner_in, starts_at, starts_of}
use Rattle.tree_laws.specs.LivePairs.{live_in, table_of}
use Rattle.tree_laws.specs.Meeting.{met_of}
use Rattle.tree_laws.specs.MovedLaw.{is_other_than, kept_in, shifted_by}
use Rattle.tree_laws.specs.SkipLaw.{IsSound}
use Rattle.tree_laws.specs.Skips.{Anew, Kept, is_below, nothing, skip_of, unkept}
use Rattle.tree_laws.specs.Stops.{stops_of}
use Rattle.tree_laws.specs.Unshared.{AreOfPairs, pair_seen}
use Rattle.tree_laws.specs.declared.told.Ended.{Ended}
use Rattle.tree_laws.proofs.Forest.{tree_table}
use Rattle.tree_laws.proofs.MeetingStops.{meets, no_walk}
use Rattle.tree_laws.proofs.OldBlocks.{unshared_are}
use Rattle.tree_laws.proofs.Skipping.{skips}
use Rattle.tree_change.specs.Gathered.{blocks_seen}
use Rattle.tree_change.specs.Walks.{last_at, live_with, lives_of, shifted_of, shifted_pair, shifted_to, pairs_at, with_last}
use Rattle.tree_change.proofs.OneKept.{IsGood, all_good}
use Rattle.tree_change.proofs.OneWalked.{IsRead, IsStop, reads_walked, stops_walked, walked_good}

-- a kept block of a tree as it is: its pair is known but for the node above and the greatest key, and what is walked below it are children
pub record IsKeptBlock (pairs : Pairs) (anew : Anew) (sup : Super) (stored : Stored) (v : Expect) : Type 0 where
  pub was : Live
  pub known : pairs v.tree v.address ≡ Some was
  pub is : shifted_to was v.parent (last_in (walk_of sup stored v)) ≡ live_at sup stored v
  pub test : ℕ → Bool
  pub lists : anew v ≡ starts_of (v.level - 1) v (starts_at v.level test (stored v.address))

-- What is known of a walk of a tree as it is, which keeps just the shared blocks: the whole walk has these records, blocks are kept soundly, the
-- greatest key is told of each block that the walk comes to, and the kept blocks that it meets show all that are shifted.
pub record IsNew (pairs : Pairs) (kept : Kept) (anew : Anew) (lasts : Lasts) (shared : Live → Bool) (sup : Super) (stored : Stored) (now : Expect)
    (news : List Seen) : Type 0 where
  pub is : walk_of sup stored now ≡ Ok news
  pub sound : IsSound now.tree kept nothing anew sup stored
  pub keeps : AllByRecursion (λ v. is_some (kept v) ≡ shared (live_at sup stored v)) (visited sup stored now)
  pub blocks : (v : Expect) (last : Key) → v.tree ≡ now.tree → kept v ≡ Some last → IsKeptBlock pairs anew sup stored v
  pub ends : (ends_of kept anew lasts sup stored now).blocks ≡ map (ended_at sup stored) (walked_of kept anew sup stored now)
  pub shifted : shifted_by pairs sup stored (kept_in kept sup stored now) ≡ shifted_by pairs sup stored (stops_of kept anew sup stored now)

-- the greatest key that is told of an address, where all that are told of it are the same
module _ (sup : Super) (stored : Stored) (address : ℕ) (key : Key) where
  abbrev pub Tells : Expect → Type 0
  Tells x = x.address ≡ address → last_in (walk_of sup stored x) ≡ key

  with_one : (k : Key) (x : Expect) → (x.address ≡ address → last_in (walk_of sup stored x) ≡ key) → k ≡ key
      → with_last address k (ended_at sup stored x) ≡ key
  with_one k x tells is = by (x.address == address) refl
    where
      by : (b : Bool) → (x.address == address) ≡ b → (if b then last_in (walk_of sup stored x) else k) ≡ key
      by true same = tells (eqb-true x.address address same)
      by false other = is

  stays_told : (k : Key) (es : List Expect) → AllByRecursion Tells es → k ≡ key
      → fold (with_last address) k (map (ended_at sup stored) es) ≡ key
  stays_told k [] all is = is
  stays_told k (x ∷ es) all is = stays_told (with_last address k (ended_at sup stored x)) es all.1 (with_one k x all.0 is)

  last_told : (k : Key) (es : List Expect) → AllByRecursion Tells es → OneOf (λ x. x.address ≡ address) es
      → fold (with_last address) k (map (ended_at sup stored) es) ≡ key
  last_told k [] all one = elim one [ ]
  last_told k (x ∷ es) all (inl here) =
      stays_told (with_last address k (ended_at sup stored x)) es all.1
      (ap (λ b. if b then last_in (walk_of sup stored x) else k) (ap (λ n. n == address) here ∙ itself address) ∙ all.0 here)
  last_told k (x ∷ es) all (inr later) = last_told (with_last address k (ended_at sup stored x)) es all.1 later

lives_are_pairs : (table : Pairs) (ended : List Ended) (blocks : List WalkedBlock)
    → AllByRecursion (λ (b : WalkedBlock). table b.tree b.address ≡ Some (live_with b (last_at ended b.address))) blocks
    → pairs_at table blocks ≡ lives_of ended blocks
lives_are_pairs table ended [] all = refl
lives_are_pairs table ended (b ∷ blocks) all =
    ap (λ one. cons_option one (pairs_at table blocks)) all.0
    ∙ ap (λ lives. live_with b (last_at ended b.address) ∷ lives) (lives_are_pairs table ended blocks all.1)

live_read : (w : Expect) (bytes : List ℕ) (last : Key) (x : Result (List ℕ) CopyFault) (key : Key) → x ≡ Ok bytes → key ≡ last
    → record {
      tree = w.tree;
      address = w.address;
      level = w.level;
      generation = w.generation;
      first = first_in x;
      last = last;
      parent = w.parent;
      owner = owner_in x;
    } ≡ live_with (block_at w bytes) key
live_read w bytes last x key is same = rw (is, same) refl

module _ (pairs : Pairs) (kept : Kept) (anew : Anew) (lasts : Lasts) (shared : Live → Bool) (sup : Super) (stored : Stored) (now : Expect)
    (news : List Seen) (n : IsNew pairs kept anew lasts shared sup stored now news) where
  abbrev pub table : Pairs
  table = table_of (live_in news)

  abbrev pub Good : Expect → Type 0
  Good = IsGood table sup stored now.tree

  abbrev pub walked : List Expect
  walked = walked_of kept anew sup stored now

  abbrev pub ended : List Ended
  ended = (ends_of kept anew lasts sup stored now).blocks

  block : (v : Expect) → Good v → (bytes : List ℕ) × (block_in stored sup.fsid v ≡ Ok bytes)
  block v good = (good.bytes, good.read)

  low : (v : Expect) (last : Key) → v.tree ≡ now.tree → Good v → kept v ≡ Some last → is_below last v.high ≡ true
  low v last of good is = by (is_below last v.high) refl
    where
      by : (b : Bool) → is_below last v.high ≡ b → is_below last v.high ≡ true
      by true below = below
      by false below =
          absurd (no_walk kept anew sup stored v last (subst (λ t. IsSound t kept nothing anew sup stored) (sym of) n.sound) is below good.fine)

  read_same : (a b : List ℕ) (x : Result (List ℕ) Finding) → x ≡ Ok a → x ≡ Ok b → a ≡ b
  read_same a b x is other = cc

  lists : (v : Expect) (last : Key) → v.tree ≡ now.tree → Good v → kept v ≡ Some last → (bytes : List ℕ) → block_in stored sup.fsid v ≡ Ok bytes
      → (test : ℕ → Bool) × (anew v ≡ starts_of (v.level - 1) v (starts_at v.level test (Ok bytes)))
  lists v last of good is bytes read =
      let b = n.blocks v last of is in
      let same : stored v.address ≡ Ok bytes =
      good.is ∙ ap (λ (bs : List ℕ). Ok bs) (read_same good.bytes bytes (block_in stored sup.fsid v) good.read read) in
      (b.test, b.lists ∙ ap (λ x. starts_of (v.level - 1) v (starts_at v.level b.test x)) same)

  pub goods : AllByRecursion Good walked
  goods = walked_good now.tree kept anew sup stored Good block low lists now.level now refl refl (all_good sup stored now news n.is)

  -- the greatest key that is told of a block that the walk comes to
  last_is : (w : Expect) → Good w → OneOf (λ x. x.address ≡ w.address) walked → last_at ended w.address ≡ last_in (walk_of sup stored w)
  last_is w good one =
      ap (λ all. last_at all w.address) n.ends
      ∙ last_told sup stored w.address (last_in (walk_of sup stored w)) no_key walked
      (all_map Good (λ x. x.address ≡ w.address → last_in (walk_of sup stored x) ≡ last_in (walk_of sup stored w)) walked
      (λ x g same. ap (λ (live : Live). live.last)
      (some_same (live_at sup stored x) (live_at sup stored w)
      (sym g.known ∙ (ap (λ t. table t x.address) (g.of ∙ sym good.of) ∙ (ap (table w.tree) same ∙ good.known))))) goods)
      one

  one_at : (P : Expect → Type 0) (address : ℕ) → ((x : Expect) → P x → x.address ≡ address) → (es : List Expect) → OneOf P es
      → OneOf (λ x. x.address ≡ address) es
  one_at P address f [] one = elim one [ ]
  one_at P address f (e ∷ es) (inl here) = inl (f e here)
  one_at P address f (e ∷ es) (inr later) = inr (one_at P address f es later)

  -- the blocks that are read are the pairs that are not shared
  abbrev Reads : WalkedBlock → Expect → Type 0
  Reads = IsRead now.tree kept anew sup stored Good block low lists

  block_pair : (b : WalkedBlock) → OneOf (Reads b) walked → table b.tree b.address ≡ Some (live_with b (last_at ended b.address))
  block_pair b one =
      let w = one_with Good (Reads b) walked goods one in
      by w.0 w.1 w.2 (one_at (Reads b) w.0.address (λ x r. refl_at x r w.0 w.2) walked one)
    where
      refl_at : (x : Expect) → Reads b x → (w : Expect) → Reads b w → x.address ≡ w.address
      refl_at x r w s = sym (ap (λ (one : WalkedBlock). one.address) r.is) ∙ ap (λ (one : WalkedBlock). one.address) s.is

      by : (w : Expect) → Good w → Reads b w → OneOf (λ x. x.address ≡ w.address) walked
          → table b.tree b.address ≡ Some (live_with b (last_at ended b.address))
      by w good r here =
          let same : stored w.address ≡ Ok r.bytes =
          good.is ∙ ap (λ (bs : List ℕ). Ok bs) (read_same good.bytes r.bytes (block_in stored sup.fsid w) good.read r.read) in
          subst (λ (c : WalkedBlock). table c.tree c.address ≡ Some (live_with c (last_at ended c.address))) (sym r.is)
          (good.known
          ∙ ap (λ (l : Live). Some l)
          (live_read w r.bytes (last_in (walk_of sup stored w)) (stored w.address) (last_at ended w.address) same (last_is w good here)))

  -- what the walk gives is what the whole walk does without the records of kept blocks
  pub comes : skip_of kept nothing anew sup stored now ≡ unkept kept nothing sup stored now
  comes = skips kept nothing anew sup stored now n.sound

  pub of_pairs : (records : List Seen) → unkept kept nothing sup stored now ≡ Ok records
      → AreOfPairs table (filter (λ live. not (shared live)) (live_in news)) news records
  of_pairs records is =
      unshared_are table shared kept sup stored now news records (tree_table sup stored now news n.is)
      (record { fine = rw n.is refl; each = n.keeps }) n.is is

  pub new_blocks : (records : List Seen) → unkept kept nothing sup stored now ≡ Ok records
      → lives_of ended (blocks_seen records) ≡ filter (λ live. not (shared live)) (live_in news)
  new_blocks records is =
      sym (lives_are_pairs table ended (blocks_seen records)
      (all_map (λ b. OneOf (Reads b) walked) (λ b. table b.tree b.address ≡ Some (live_with b (last_at ended b.address))) (blocks_seen records)
      block_pair
      (reads_walked now.tree kept anew sup stored Good block low lists now.level now refl refl (all_good sup stored now news n.is) records
      (comes ∙ is))))
      ∙ (sym (pairs_seen table records) ∙ (of_pairs records is).blocks)

  -- the kept blocks that it meets are the stops
  pub met_is : (records : List Seen) → unkept kept nothing sup stored now ≡ Ok records
      → met_of kept anew sup stored now ≡ stops_of kept anew sup stored now
  met_is records is = meets kept anew sup stored now n.sound (rw (comes ∙ is) refl)

  -- of a stop what moved is what is shown
  abbrev Stop : Expect → Expect → Type 0
  Stop = IsStop now.tree kept anew sup stored Good block low lists

  record IsStopped (e : Expect) : Type 0 where
    was : Live
    known : pairs e.tree e.address ≡ Some was
    is : shifted_to was e.parent (last_in (walk_of sup stored e)) ≡ live_at sup stored e
    last : last_at ended e.address ≡ last_in (walk_of sup stored e)

  stopped : (e : Expect) → OneOf (Stop e) walked → IsStopped e
  stopped e one =
      let w = one_with Good (Stop e) walked goods one in
      let good : Good e = subst Good w.2.0 w.1 in
      by (kept e) refl w.2.1 good (one_at (Stop e) e.address (λ x s. ap (λ (v : Expect). v.address) s.0) walked one)
    where
      by : (k : Option Key) → kept e ≡ k → is_some k ≡ true → Good e → OneOf (λ x. x.address ≡ e.address) walked → IsStopped e
      by None is some good here = absurd (cc)
      by (Some last) is some good here =
          let b = n.blocks e last good.of is in
          record { was = b.was; known = b.known; is = b.is; last = last_is e good here }

  moved_one : (e : Expect) → IsStopped e → (lives : List Live)
      → cons_option (shifted_pair (pairs e.tree e.address) e.parent (last_at ended e.address)) lives
      ≡ (if is_other_than (pairs e.tree e.address) (live_at sup stored e) then live_at sup stored e ∷ lives else lives)
  moved_one e s lives =
      ap (λ p. cons_option (shifted_pair p e.parent (last_at ended e.address)) lives) s.known
      ∙ (ap (λ k. cons_option (shifted_pair (Some s.was) e.parent k) lives) s.last
      ∙ (by (s.was.parent == e.parent && key_same s.was.last (last_in (walk_of sup stored e)))
      ∙ ap (λ p. if is_other_than p (live_at sup stored e) then live_at sup stored e ∷ lives else lives) (sym s.known)))
    where
      by : (b : Bool) → cons_option (if b then None else Some (shifted_to s.was e.parent (last_in (walk_of sup stored e)))) lives
          ≡ (if not b then live_at sup stored e ∷ lives else lives)
      by true = refl
      by false = ap (λ (l : Live). l ∷ lives) s.is

  moved_all : (es : List Expect) → AllByRecursion IsStopped es → shifted_of pairs ended es ≡ shifted_by pairs sup stored es
  moved_all [] all = refl
  moved_all (e ∷ es) all =
      moved_one e all.0 (shifted_of pairs ended es)
      ∙ ap (λ lives. if is_other_than (pairs e.tree e.address) (live_at sup stored e) then live_at sup stored e ∷ lives else lives)
      (moved_all es all.1)

  pub moved_is : (records : List Seen) → unkept kept nothing sup stored now ≡ Ok records
      → shifted_of pairs ended (met_of kept anew sup stored now) ≡ shifted_by pairs sup stored (kept_in kept sup stored now)
  moved_is records is =
      ap (shifted_of pairs ended) (met_is records is)
      ∙ (moved_all (stops_of kept anew sup stored now)
      (all_map (λ e. OneOf (Stop e) walked) IsStopped (stops_of kept anew sup stored now) stopped
      (stops_walked now.tree kept anew sup stored Good block low lists now.level now refl refl (all_good sup stored now news n.is)))
      ∙ sym n.shifted)
