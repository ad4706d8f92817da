-- At and below a block at and below which all is kept, no node above and no greatest key is another than it was.
use Rattle.std.proofs.Common.{◌≡◌, ℕ, zero, suc, ◌==◌, Bool, false, not, ◌&&◌, List, [], ◌∷◌, ◌++◌, refl, ap, sym, subst, ◌∙◌}
use Rattle.std.specs.Prelude.{Option, Some, None, Result, Ok, Err}
use Rattle.walk_laws.proofs.Keys.{item_keys-append}
use Rattle.tree_laws.proofs.Mixing.{same_itself}
use Rattle.verdict.proofs.Numbers.{itself}
use Rattle.verdict.specs.OnDisk.{key_same}
use Rattle.verdict.specs.Rules.{no_key}
use Rattle.verdict.specs.declared.key.Key.{Key}
use Rattle.super_reader.specs.declared.Super.{Super}
use Rattle.live_index.specs.Pairs.{Pairs}
use Rattle.live_index.specs.declared.live.Live.{Live}
use Rattle.node_reader.specs.Faults.{block_fault}
use Rattle.node_reader.specs.Layout.{pointers_of}
use Rattle.node_reader.specs.Stored.{CopyFault, Stored}
use Rattle.node_reader.specs.declared.expect.Expect.{Expect}
use Rattle.node_reader.specs.declared.expect.Pointer.{Pointer}
use Rattle.records.specs.Seen.{Seen}
use Rattle.records.specs.Seen.Seen.{BlockSeen, PointerSeen, ItemSeen}
use Rattle.records.specs.Walk.{child_of, children_of, entry_records, high_of, walk_of}
use Rattle.records.specs.WalkLaw.{visited}
use Rattle.tree_laws.specs.Keeping.{Marks, Under, last_in, live_at}
use Rattle.tree_laws.specs.LivePairs.{greater_key, last_key}
use Rattle.tree_laws.specs.MovedLaw.{is_other_than}
use Rattle.tree_laws.proofs.Accepted.{Accepts, IsAs, accepts, as_expect, visit_of, walk_accepted}
use Rattle.tree_laws.proofs.Lasting.{low_fits}
use Rattle.tree_laws.proofs.Sharing.{IsKept}
use Rattle.tree_laws.proofs.Sifting.{IsSame}
use Rattle.tree_laws.proofs.Trails.{Tells, Trail, Visit, after, all_own, all_own_append, tells, then_trail, trail_and, trail_below, trail_of, trails}
use Rattle.tree_laws.proofs.Visiting.{Visits, visits_after, visits_later, visits_then, visits_then_first, visits_then_later}
use Rattle.tree_laws.proofs.Within.{here_of, rest_of}

-- the keys of the items among records
abbrev pub item_keys : List Seen → List Key
item_keys [] = []
item_keys (BlockSeen block ∷ more) = item_keys more
item_keys (PointerSeen one ∷ more) = item_keys more
item_keys (ItemSeen item ∷ more) = item.key ∷ item_keys more

abbrev pub greatest_of : List Key → Key
greatest_of [] = no_key
greatest_of (key ∷ keys) = greater_key key (greatest_of keys)

last_is : (records : List Seen) → last_key records ≡ greatest_of (item_keys records)
unfolding last_key
last_is [] = refl
last_is (BlockSeen block ∷ more) = last_is more
last_is (PointerSeen one ∷ more) = last_is more
last_is (ItemSeen item ∷ more) = ap (greater_key item.key) (last_is more)

-- the keys of the items of a trail
abbrev pub keys_in : Trail → List Key
keys_in (Err finding) = []
keys_in (Ok visits) = item_keys (all_own visits)

pub keys_after : (P : Expect → Type 0) (visits : List Visit) (later : Trail) → Visits P later
    → keys_in (after visits later) ≡ item_keys (all_own visits) ++ keys_in later
unfolding after
keys_after P visits (Err finding) all = elim all [ ]
keys_after P visits (Ok others) all = ap item_keys (all_own_append visits others) ∙ item_keys-append (all_own visits) (all_own others)

pub keys_then : (P : Expect → Type 0) (first later : Trail) → Visits P (then_trail first later)
    → keys_in (then_trail first later) ≡ keys_in first ++ keys_in later
keys_then P (Err finding) later all = elim all [ ]
keys_then P (Ok visits) later all = keys_after P visits later (visits_later P visits later all)

pub last_walk : (sup : Super) (stored : Stored) (e : Expect) → last_in (walk_of sup stored e) ≡ greatest_of (keys_in (trail_of sup stored e))
last_walk sup stored e = by (trail_of sup stored e) (tells sup stored e)
  where
    by : (trail : Trail) → Tells sup stored trail (walk_of sup stored e) (visited sup stored e)
        → last_in (walk_of sup stored e) ≡ greatest_of (keys_in trail)
    by (Err finding) t = ap last_in t.0
    by (Ok visits) t = ap last_in t.0 ∙ last_is (all_own visits)

same_kept : (p q : ℕ) (m n : Key) → q ≡ p → n ≡ m → not (p == q && key_same m n) ≡ false
same_kept p q m n parent last = rw (parent, last, itself p, same_itself m) refl

pub bytes_same : (a b : List ℕ) (x y : Result (List ℕ) CopyFault) → x ≡ Ok a → y ≡ Ok b → x ≡ y → a ≡ b
bytes_same a b x y is other same = cc

-- a block that is accepted as it was, where it is accepted as it is expected elsewhere
unfoldable pub accepts_again : (sup : Super) (old new : Stored) (c d : Expect) (a : Accepts sup old d) → IsAs c d → new c.address ≡ Ok a.bytes
    → Accepts sup new c → Accepts sup new c
accepts_again sup old new c d a same is b = record {
  bytes = a.bytes;
  is = is;
  passes = subst (λ bytes. block_fault bytes sup.fsid c ≡ None) (bytes_same b.bytes a.bytes (new c.address) (new c.address) b.is is refl) b.passes;
  entries = a.entries;
  has = subst (λ x. entry_records sup x a.bytes ≡ Ok a.entries) (as_expect c d same) a.has;
}

module _ (A : Expect → Type 0) (pairs : Pairs) (marked : Marks) (moved : ℕ → Bool) (under : Under) (sup : Super) (old new : Stored) where
  abbrev pub K : Expect → Type 0
  K = IsKept pairs marked moved under sup old new

  -- the node above a block and its greatest key are those that the table has
  abbrev pub IsQuiet : Expect → Type 0
  IsQuiet w = is_other_than (pairs w.tree w.address) (live_at sup new w) ≡ false

  abbrev pub was : ℕ → Expect → Trail
  was level = trail_and (trail_below level sup old) sup old

  abbrev pub is_now : ℕ → Expect → Trail
  is_now level = trail_and (trail_below level sup new) sup new

  -- so of each block of a trail, and the keys of items are those of an old one
  pub record Calm (before trail : Trail) : Type 0 where
    pub quiet : Visits IsQuiet trail
    pub keys : keys_in trail ≡ keys_in before

  quiet_one : (c d : Expect) → c.tree ≡ d.tree → c.address ≡ d.address → c.parent ≡ d.parent → pairs d.tree d.address ≡ Some (live_at sup old d)
      → last_in (walk_of sup new c) ≡ last_in (walk_of sup old d) → IsQuiet c
  quiet_one c d tree at parent known last =
      let entry : pairs c.tree c.address ≡ Some (live_at sup old d) = ap (λ t. pairs t c.address) tree ∙ (ap (pairs d.tree) at ∙ known) in
      ap (λ (one : Option Live). is_other_than one (live_at sup new c)) entry
      ∙ same_kept d.parent c.parent (last_in (walk_of sup old d)) (last_in (walk_of sup new c)) parent last

  calm_children : (level : ℕ)
      → ((c d : Expect) → c.level ≡ level → d.level ≡ level → IsSame old c d → c.parent ≡ d.parent
      → Visits K (was level d) → Visits A (is_now level c) → Calm (was level d) (is_now level c))
      → (e v : Expect) → e.tree ≡ v.tree → e.address ≡ v.address → (pointers : List Pointer)
      → Visits K (trails (was level) (children_of level v pointers)) → Visits A (trails (is_now level) (children_of level e pointers))
      → Calm (trails (was level) (children_of level v pointers)) (trails (is_now level) (children_of level e pointers))
  calm_children level calm e v tree at [] all more = record { quiet = tt; keys = refl }
  calm_children level calm e v tree at (pointer ∷ pointers) all more =
      let c = child_of level e pointer (high_of pointers e.high) in
      let d = child_of level v pointer (high_of pointers v.high) in
      let rest_old = trails (was level) (children_of level v pointers) in
      let rest_new = trails (is_now level) (children_of level e pointers) in
      let here = visits_then_first K (was level d) rest_old all in
      let a = accepts K (trail_below level sup old) sup old d here in
      let block : IsAs c d = record { tree = tree; address = refl; generation = refl; level = refl } in
      let same : IsSame old c d = record { block = block; low = rw a.is (low_fits sup old d a) } in
      let one = calm c d refl refl same at here (visits_then_first A (is_now level c) rest_new more) in
      let later =
      calm_children level calm e v tree at pointers (visits_then_later K (was level d) rest_old all)
      (visits_then_later A (is_now level c) rest_new more) in
      record {
        quiet = visits_then IsQuiet (is_now level c) rest_new one.quiet later.quiet;
        keys = keys_then A (is_now level c) rest_new more
            ∙ (ap (λ keys. keys ++ keys_in rest_new) one.keys
            ∙ (ap (λ keys. keys_in (was level d) ++ keys) later.keys ∙ sym (keys_then K (was level d) rest_old all)));
      }

  calm_block : (level : ℕ) (c d : Expect) → c.level ≡ level → d.level ≡ level → IsSame old c d → c.parent ≡ d.parent
      → ((bytes : List ℕ) → Visits K (trail_below level sup old d bytes) → Visits A (trail_below level sup new c bytes)
      → Calm (trail_below level sup old d bytes) (trail_below level sup new c bytes))
      → Visits K (was level d) → Visits A (is_now level c) → Calm (was level d) (is_now level c)
  unfolding accepts_again
  calm_block level c d at_c at_d same parent calm all more =
      let below_old = trail_below level sup old in
      let below_new = trail_below level sup new in
      let a = accepts K below_old sup old d all in
      let kept : K d = here_of K below_old sup old d all in
      let is : new c.address ≡ Ok a.bytes = ap new same.block.address ∙ (kept.alike ∙ a.is) in
      let n = accepts_again sup old new c d a same.block is (accepts A below_new sup new c more) in
      let rest_old = below_old d a.bytes in
      let rest_new = below_new c a.bytes in
      let first : Visits K rest_old = rest_of K below_old sup old d a all in
      let later : Visits A rest_new = rest_of A below_new sup new c n more in
      let deep : Calm rest_old rest_new = calm a.bytes first later in
      let here = visit_of c a.bytes a.entries ∷ [] in
      let there = visit_of d a.bytes a.entries ∷ [] in
      let walk : is_now level c ≡ after here rest_new = walk_accepted below_new sup new c n in
      let keys : keys_in (is_now level c) ≡ keys_in (was level d) =
      ap keys_in walk
      ∙ (keys_after A here rest_new later
      ∙ (ap (λ keys. item_keys (all_own here) ++ keys) deep.keys
      ∙ (sym (keys_after K there rest_old first) ∙ sym (ap keys_in (walk_accepted below_old sup old d a))))) in
      let last : last_in (walk_of sup new c) ≡ last_in (walk_of sup old d) =
      last_walk sup new c
      ∙ (ap (λ n. greatest_of (keys_in (is_now n c))) at_c
      ∙ (ap greatest_of keys ∙ (ap (λ n. greatest_of (keys_in (was n d))) (sym at_d) ∙ sym (last_walk sup old d)))) in
      record {
        quiet = subst (Visits IsQuiet) (sym walk)
            (visits_after IsQuiet here rest_new (quiet_one c d same.block.tree same.block.address parent kept.known last, tt) deep.quiet);
        keys = keys;
      }

  calm_below : (level : ℕ) (c d : Expect) → c.tree ≡ d.tree → c.address ≡ d.address → (bytes : List ℕ)
      → Visits K (trail_below level sup old d bytes) → Visits A (trail_below level sup new c bytes)
      → Calm (trail_below level sup old d bytes) (trail_below level sup new c bytes)
  unfolding trail_below
  calm_below zero c d tree at bytes all more = record { quiet = tt; keys = refl }
  calm_below (suc level) c d tree at bytes all more =
      calm_children level
      (λ x y at_x at_y same parent. calm_block level x y at_x at_y same parent (calm_below level x y same.block.tree same.block.address))
      c d tree at (pointers_of bytes) all more

  pub calm : (level : ℕ) (c d : Expect) → c.level ≡ level → d.level ≡ level → IsSame old c d → c.parent ≡ d.parent
      → Visits K (was level d) → Visits A (is_now level c) → Calm (was level d) (is_now level c)
  calm level c d at_c at_d same parent all more =
      calm_block level c d at_c at_d same parent (calm_below level c d same.block.tree same.block.address) all more
