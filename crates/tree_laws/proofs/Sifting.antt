-- A block that is kept, below which some are walked.
use Rattle.std.proofs.Common.{◌≡◌, ℕ, zero, suc, ◌-◌, Bool, true, false, ◌&&◌, List, [], ◌∷◌, ◌++◌, refl, ap, sym, subst, ◌∙◌, arith}
use Rattle.std.specs.Prelude.{Option, Some, None, is_none, is_some, Result, Ok, Err, if◌then◌else◌}
use Rattle.std.specs.List.{AllByRecursion, flat_map}
use Rattle.verdict.proofs.Truth.{and_parts, absorbs_left}
use Rattle.verdict.specs.OnDisk.{key_below}
use Rattle.verdict.specs.declared.key.Key.{Key}
use Rattle.super_reader.specs.declared.Super.{Super}
use Rattle.node_reader.specs.Layout.{pointers_of}
use Rattle.node_reader.specs.Stored.{CopyFault, Stored}
use Rattle.node_reader.specs.declared.expect.Expect.{Expect}
use Rattle.node_reader.specs.declared.expect.Pointer.{Pointer}
use Rattle.records.specs.Seen.{Seen}
use Rattle.records.specs.Walk.{Records, behind, child_of, children_of, each, high_of, then_records, walk_of}
use Rattle.records.specs.WalkLaw.{visited}
use Rattle.walk_laws.specs.WalkOrder.{Ascend}
use Rattle.walk_laws.proofs.Blocks.{block_keys}
use Rattle.tree_laws.specs.declared.told.Start.{Start}
use Rattle.tree_laws.specs.Keeping.{bound_at, bound_of, or_high, starts_at, starts_in, starts_of}
use Rattle.tree_laws.specs.SkipLaw.{anew_below}
use Rattle.tree_laws.specs.Skips.{Kept, Told, is_below, unkept}
use Rattle.tree_laws.proofs.Accepted.{IsAs, LowFits, accepts, high_finding, keys_at, visit_of, walk_again}
use Rattle.tree_laws.proofs.Bounds.{below_through, keys_below, upto, upto_then, upto_through}
use Rattle.tree_laws.proofs.Lasting.{low_fits}
use Rattle.tree_laws.proofs.Skipping.{own_or, pick, unkept_after, unkept_in, unkept_is, unkept_then}
use Rattle.tree_laws.proofs.Trails.{Tells, Trail, Visit, after, tells, then_trail, trail_and, trail_below, trail_of, trails}
use Rattle.tree_laws.proofs.Visiting.{Each, Visits, visits_then_first, visits_then_later}
use Rattle.tree_laws.proofs.Within.{bounded, node_keys, pointer_keys, rest_of, upto_block}

-- a low key is that of what is stored
abbrev pub LowAt : Option Key → ℕ → Result (List ℕ) CopyFault → Type 0
LowAt low level (Err fault) = Unit {0}
LowAt low level (Ok bytes) = LowFits low level bytes

-- a block is expected where another was visited
pub record IsSame (old : Stored) (e v : Expect) : Type 0 where
  pub block : IsAs e v
  pub low : LowAt e.low v.level (old v.address)

-- a trail has a finding
abbrev pub Fails : Trail → Type 0
Fails (Err finding) = Unit {0}
Fails (Ok visits) = ⊥

-- what a trail gives of blocks that are not kept, or that it has a finding
abbrev pub Yields : Kept → Told → Bool → Records → Trail → Type 0
Yields kept told true others trail = unkept_in kept told trail ≡ others
Yields kept told false others trail = Fails trail

pub yields_is : (kept : Kept) (told : Told) (sup : Super) (stored : Stored) (e : Expect) (b : Bool) (others : Records) → Yields kept told b others (trail_of sup stored e)
    → unkept kept told sup stored e ≡ (if b then others else walk_of sup stored e)
yields_is kept told sup stored e b others is = unkept_is kept told sup stored e ∙ by b (trail_of sup stored e) (tells sup stored e) is
  where
    by : (b : Bool) (trail : Trail) → Tells sup stored trail (walk_of sup stored e) (visited sup stored e) → Yields kept told b others trail → unkept_in kept told trail ≡ (if b then others else walk_of sup stored e)
    by true trail t is = is
    by false (Err finding) t is = sym t.0
    by false (Ok visits) t is = elim is [ ]

-- two trails, one after the other
fails_after : (visits : List Visit) (later : Trail) → Fails later → Fails (after visits later)
unfolding after
fails_after visits (Err finding) is = tt
fails_after visits (Ok others) is = elim is [ ]

yields_then : (kept : Kept) (told : Told) (a b : Bool) (first later : Records) (before next : Trail) → Yields kept told a first before → Yields kept told b later next → Yields kept told (a && b) (then_records first later) (then_trail before next)
yields_then kept told true true first later before next is more = rw (unkept_then kept told before next, is, more) refl
yields_then kept told true false first later (Err finding) next is more = tt
yields_then kept told true false first later (Ok visits) next is more = fails_after visits next more
yields_then kept told false b first later (Err finding) next is more = tt
yields_then kept told false b first later (Ok visits) next is more = elim is [ ]

-- nothing before records
pub behind_none : (later : Records) → behind [] later ≡ later
unfolding behind
behind_none (Err finding) = refl
behind_none (Ok others) = refl

-- a block that is kept
pub not_new : (k : Option Key) (own others : List Seen) → is_none k ≡ false → own_or k own others ≡ others
not_new None own others is = absurd (cc)
not_new (Some last) own others is = refl

pub nil : (records : List Seen) → records ++ [] ≡ records
nil [] = refl
nil (one ∷ records) = ap (λ more. one ∷ more) (nil records)

-- blocks that are kept, of which nothing is told
pub unkept_all : (kept : Kept) (told : Told) (visits : List Visit) → Each (λ e. (is_none (kept e) ≡ false) × (told e ≡ [])) visits → flat_map (pick kept told) visits ≡ []
unkept_all kept told [] all = refl
unkept_all kept told (v ∷ visits) all = rw (not_new (kept v.e) v.own (told v.e) all.0.0, all.0.1) (unkept_all kept told visits all.1)

-- a kept block before what is below it
yields_own : (kept : Kept) (told : Told) (b : Bool) (e : Expect) (bytes : List ℕ) (entries : List Seen) (others : Records) (later : Trail) → is_none (kept e) ≡ false → Yields kept told b others later
    → Yields kept told b (behind (told e) others) (after (visit_of e bytes entries ∷ []) later)
yields_own kept told true e bytes entries others later stays is =
    unkept_after kept told (visit_of e bytes entries ∷ []) later
    ∙ (ap (λ own. behind own (unkept_in kept told later)) (ap (λ own. own ++ []) (not_new (kept e) (visit_of e bytes entries).own (told e) stays) ∙ nil (told e)) ∙ ap (behind (told e)) is)
yields_own kept told false e bytes entries others later stays is = fails_after (visit_of e bytes entries ∷ []) later is

-- the bound of a child that is walked is that of its pointer
pub or_high_is : (pointers : List Pointer) (high : Option Key) → or_high (high_of pointers None) high ≡ high_of pointers high
or_high_is [] high = refl
or_high_is (pointer ∷ pointers) high = refl

-- whether the greatest key that is sure to stand in a block is below a bound, by whether that is which it had
abbrev pub fit_at : Option Key → Key → Option Key → Bool → Bool
fit_at None key high others = is_below key high
fit_at (Some next) key high others = others

abbrev pub fits : List Start → Bool → Option Key → Bool
fits [] last high = last
fits (start ∷ starts) last high = fit_at start.next start.pointer.key high (fits starts last high)

pub fits_is : (starts : List Start) (last : Key) (high : Option Key) → is_below (bound_of starts last) high ≡ fits starts (is_below last high) high
fits_is [] last high = refl
fits_is (start ∷ starts) last high = by start.next (fits_is starts last high)
  where
    by : (next : Option Key) → is_below (bound_of starts last) high ≡ fits starts (is_below last high) high
        → is_below (bound_at next start.pointer.key (bound_of starts last)) high ≡ fit_at next start.pointer.key high (fits starts (is_below last high) high)
    by None rest = refl
    by (Some key) rest = rest

-- a first child and the later ones
abbrev pub NoneIs : List Pointer → Bool → Type 0
NoneIs [] r = r ≡ true
NoneIs (pointer ∷ pointers) r = Unit {0}

fits_first : (moving : ℕ → Bool) (m : Bool) (pointer : Pointer) (pointers : List Pointer) (trail : Trail) (r : Bool) (high old_high : Option Key) → NoneIs pointers r
    → upto trail (high_of pointers old_high) ≡ true → keys_below (pointer_keys (pointer ∷ pointers)) high ≡ true
    → ((if m then true else upto trail (high_of pointers high)) && fits (starts_in moving pointers) r high)
    ≡ fits (if m then record { pointer = pointer; next = high_of pointers None } ∷ starts_in moving pointers else starts_in moving pointers) (upto trail high && r) high
fits_first moving true pointer [] trail r high old_high none below keys = none ∙ sym (and_parts (is_below pointer.key high) true keys).0
fits_first moving true pointer (next ∷ pointers) trail r high old_high none below keys =
    let key = (and_parts (is_below next.key high) (keys_below (pointer_keys pointers) high) (and_parts (is_below pointer.key high) (keys_below (pointer_keys (next ∷ pointers)) high) keys).1).0 in
    let whole : upto trail high ≡ true = upto_through trail next.key high below key in
    ap (λ b. fits (starts_in moving (next ∷ pointers)) (b && r) high) (sym whole)
fits_first moving false pointer [] trail r high old_high none below keys = refl
fits_first moving false pointer (next ∷ pointers) trail r high old_high none below keys =
    let key = (and_parts (is_below next.key high) (keys_below (pointer_keys pointers) high) (and_parts (is_below pointer.key high) (keys_below (pointer_keys (next ∷ pointers)) high) keys).1).0 in
    let whole : upto trail high ≡ true = upto_through trail next.key high below key in
    ap (λ b. b && fits (starts_in moving (next ∷ pointers)) r high) below ∙ ap (λ b. fits (starts_in moving (next ∷ pointers)) (b && r) high) (sym whole)

-- the pointers of a node and what is below it
fits_own : (moving : ℕ → Bool) (pointers : List Pointer) (g : Bool) (high : Option Key) → Ascend (pointer_keys pointers)
    → fits (starts_in moving pointers) (keys_below (pointer_keys pointers) high && g) high ≡ (keys_below (pointer_keys pointers) high && fits (starts_in moving pointers) g high)
fits_own moving [] g high ascend = refl
fits_own moving (pointer ∷ []) g high ascend = by (moving pointer.address) (is_below pointer.key high)
  where
    by : (m b : Bool) → fits (if m then record { pointer = pointer; next = None } ∷ [] else []) ((is_below pointer.key high && true) && g) high
        ≡ ((is_below pointer.key high && true) && fits (if m then record { pointer = pointer; next = None } ∷ [] else []) g high)
    by true b = twice (is_below pointer.key high)
      where
        twice : (b : Bool) → b ≡ ((b && true) && b)
        twice true = refl
        twice false = refl
    by false b = refl
fits_own moving (pointer ∷ next ∷ pointers) g high ascend = rw same (by (moving pointer.address) (fits_own moving (next ∷ pointers) g high ascend.1))
  where
    through : (high : Option Key) (a b : Key) → key_below a b ≡ true → is_below b high ≡ true → is_below a high ≡ true
    through high a b less below = below_through a b high less below

    same : keys_below (pointer_keys (pointer ∷ next ∷ pointers)) high ≡ keys_below (pointer_keys (next ∷ pointers)) high
    same = absorbs_left (is_below pointer.key high) (keys_below (pointer_keys (next ∷ pointers)) high)
        (λ all. through high pointer.key next.key ascend.0.0 (and_parts (is_below next.key high) (keys_below (pointer_keys pointers) high) all).0)

    by : (m : Bool) → fits (starts_in moving (next ∷ pointers)) (keys_below (pointer_keys (next ∷ pointers)) high && g) high ≡ (keys_below (pointer_keys (next ∷ pointers)) high && fits (starts_in moving (next ∷ pointers)) g high)
        → fits (if m then record { pointer = pointer; next = Some next.key } ∷ starts_in moving (next ∷ pointers) else starts_in moving (next ∷ pointers)) (keys_below (pointer_keys (next ∷ pointers)) high && g) high
        ≡ (keys_below (pointer_keys (next ∷ pointers)) high && fits (if m then record { pointer = pointer; next = Some next.key } ∷ starts_in moving (next ∷ pointers) else starts_in moving (next ∷ pointers)) g high)
    by true rest = rest
    by false rest = rest

-- the same, of a block on a level
fits_level : (moving : ℕ → Bool) (level : ℕ) (bytes : List ℕ) (g : Bool) (high : Option Key) → Ascend (keys_at level bytes)
    → fits (starts_at level moving (Ok bytes)) (keys_below (keys_at level bytes) high && g) high ≡ (keys_below (keys_at level bytes) high && fits (starts_at level moving (Ok bytes)) g high)
fits_level moving zero bytes g high ascend = refl
fits_level moving (suc level) bytes g high ascend =
    subst (λ ks. fits (starts_in moving (pointers_of bytes)) (keys_below ks high && g) high ≡ (keys_below ks high && fits (starts_in moving (pointers_of bytes)) g high)) (sym (node_keys level bytes))
    (fits_own moving (pointers_of bytes) g high (subst Ascend (node_keys level bytes) ascend))

-- what is walked is of the tree and on the level
pub starts_level : (level : ℕ) (e : Expect) (starts : List Start) → AllByRecursion (λ c. (c.level ≡ level) × (c.tree ≡ e.tree)) (starts_of level e starts)
starts_level level e [] = tt
starts_level level e (start ∷ starts) = ((refl, refl), starts_level level e starts)

module _ (P : Expect → Type 0) (kept : Kept) (told : Told) (tree : ℕ) (moving : ℕ → Bool) (sup : Super) (old new : Stored) where
  abbrev pub of_old : ℕ → Expect → Trail
  of_old level = trail_and (trail_below level sup old) sup old

  abbrev pub of_new : ℕ → Expect → Trail
  of_new level = trail_and (trail_below level sup new) sup new

  -- a child at which and below which none moved is carried
  abbrev pub IsCarried : ℕ → Type 0
  IsCarried level = (c d : Expect) → d.level ≡ level → d.tree ≡ tree → IsSame old c d → c.parent ≡ d.parent → is_some c.low ≡ true → moving d.address ≡ false → Visits P (of_old level d)
      → Yields kept told (upto (of_old level d) c.high) (Ok []) (of_new level c)

  -- the low key of a block that is accepted
  pub low_at : (level : ℕ) (d : Expect) → Visits P (of_old level d) → LowAt d.low d.level (old d.address)
  low_at level d all = let a = accepts P (trail_below level sup old) sup old d all in rw a.is (low_fits sup old d a)

  -- the children of a block
  sift_children : (level : ℕ) → IsCarried level → (e v : Expect) → v.tree ≡ tree → e.tree ≡ v.tree → e.address ≡ v.address → (pointers : List Pointer) → keys_below (pointer_keys pointers) e.high ≡ true → Visits P (trails (of_old level) (children_of level v pointers))
      → Yields kept told (fits (starts_in moving pointers) (upto (trails (of_old level) (children_of level v pointers)) e.high) e.high)
      (each (unkept kept told sup new) (starts_of level e (starts_in moving pointers))) (trails (of_new level) (children_of level e pointers))
  sift_children level carried e v here_tree of_tree at [] keys all = refl
  sift_children level carried e v here_tree of_tree at (pointer ∷ pointers) keys all =
      by (moving pointer.address) refl
      (sift_children level carried e v here_tree of_tree at pointers (and_parts (is_below pointer.key e.high) (keys_below (pointer_keys pointers) e.high) keys).1 (visits_then_later P (of_old level d) rest_old all))
    where
      c : Expect
      c = child_of level e pointer (high_of pointers e.high)

      d : Expect
      d = child_of level v pointer (high_of pointers v.high)

      rest_old : Trail
      rest_old = trails (of_old level) (children_of level v pointers)

      rest_new : Trail
      rest_new = trails (of_new level) (children_of level e pointers)

      S : List Start
      S = starts_in moving pointers

      given : Expect → Records
      given x = unkept kept told sup new x

      here : Visits P (of_old level d)
      here = visits_then_first P (of_old level d) rest_old all

      none : (pointers : List Pointer) → NoneIs pointers (upto (trails (of_old level) (children_of level v pointers)) e.high)
      none [] = refl
      none (next ∷ more) = tt

      bound : (m : Bool) → ((if m then true else upto (of_old level d) (high_of pointers e.high)) && fits S (upto rest_old e.high) e.high)
          ≡ fits (if m then record { pointer = pointer; next = high_of pointers None } ∷ S else S) (upto (then_trail (of_old level d) rest_old) e.high) e.high
      bound m = fits_first moving m pointer pointers (of_old level d) (upto rest_old e.high) e.high v.high (none pointers) (bounded P level sup old d refl here) keys
          ∙ ap (λ b. fits (if m then record { pointer = pointer; next = high_of pointers None } ∷ S else S) b e.high) (sym (upto_then P (of_old level d) rest_old e.high all))

      by : (m : Bool) → moving pointer.address ≡ m → Yields kept told (fits S (upto rest_old e.high) e.high) (each given (starts_of level e S)) rest_new
          → Yields kept told (fits (if m then record { pointer = pointer; next = high_of pointers None } ∷ S else S) (upto (then_trail (of_old level d) rest_old) e.high) e.high)
          (each given (starts_of level e (if m then record { pointer = pointer; next = high_of pointers None } ∷ S else S))) (then_trail (of_new level c) rest_new)
      by true is rest =
          subst (λ b. Yields kept told b (then_records (given (child_of level e pointer (or_high (high_of pointers None) e.high))) (each given (starts_of level e S))) (then_trail (of_new level c) rest_new)) (bound true)
          (subst (λ h. Yields kept told (fits S (upto rest_old e.high) e.high) (then_records (given (child_of level e pointer h)) (each given (starts_of level e S))) (then_trail (of_new level c) rest_new)) (sym (or_high_is pointers e.high))
          (yields_then kept told true (fits S (upto rest_old e.high) e.high) (given c) (each given (starts_of level e S)) (of_new level c) rest_new (sym (unkept_is kept told sup new c)) rest))
      by false is rest =
          let block : IsAs c d = record { tree = of_tree; address = refl; generation = refl; level = refl } in
          let same : IsSame old c d = record { block = block; low = low_at level d here } in
          subst (λ b. Yields kept told b (each given (starts_of level e S)) (then_trail (of_new level c) rest_new)) (bound false)
          (subst (λ others. Yields kept told (upto (of_old level d) c.high && fits S (upto rest_old e.high) e.high) others (then_trail (of_new level c) rest_new)) (behind_none (each given (starts_of level e S)))
          (yields_then kept told (upto (of_old level d) c.high) (fits S (upto rest_old e.high) e.high) (Ok []) (each given (starts_of level e S)) (of_new level c) rest_new
          (carried c d refl here_tree same at refl is here) rest))

  -- what is below a block
  sift_below : (level : ℕ) → ((n : ℕ) → IsCarried n) → (e v : Expect) → v.tree ≡ tree → e.tree ≡ v.tree → e.address ≡ v.address → (bytes : List ℕ) → keys_below (keys_at level bytes) e.high ≡ true → Visits P (trail_below level sup old v bytes)
      → Yields kept told (fits (starts_at level moving (Ok bytes)) (upto (trail_below level sup old v bytes) e.high) e.high)
      (anew_below level (unkept kept told sup new) (starts_of (level - 1) e (starts_at level moving (Ok bytes)))) (trail_below level sup new e bytes)
  unfolding trail_below
  sift_below zero carried e v here_tree of_tree at bytes keys all = refl
  sift_below (suc level) carried e v here_tree of_tree at bytes keys all =
      let same : level ≡ suc level - 1 = omega arith in
      subst (λ n. Yields kept told (fits (starts_in moving (pointers_of bytes)) (upto (trails (of_old level) (children_of level v (pointers_of bytes))) e.high) e.high)
      (each (unkept kept told sup new) (starts_of n e (starts_in moving (pointers_of bytes)))) (trails (of_new level) (children_of level e (pointers_of bytes)))) same
      (sift_children level (carried level) e v here_tree of_tree at (pointers_of bytes) (subst (λ ks. keys_below ks e.high ≡ true) (node_keys level bytes) keys) all)

  -- a block
  pub sift_block : ((n : ℕ) → IsCarried n) → (e v : Expect) → v.tree ≡ tree → IsSame old e v → is_none (kept e) ≡ false → new v.address ≡ old v.address → Visits P (trail_of sup old v)
      → Yields kept told (fits (starts_at v.level moving (old v.address)) (upto (trail_of sup old v) e.high) e.high)
      (behind (told e) (anew_below v.level (unkept kept told sup new) (starts_of (v.level - 1) e (starts_at v.level moving (old v.address))))) (of_new v.level e)
  sift_block carried e v here_tree same stays alike all =
      let below = trail_below v.level sup old in
      let a = accepts P below sup old v all in
      let later : Visits P (below v a.bytes) = rest_of P below sup old v a all in
      let is : new e.address ≡ Ok a.bytes = ap new same.block.address ∙ (alike ∙ a.is) in
      let low : LowFits e.low v.level a.bytes = subst (LowAt e.low v.level) a.is same.low in
      let others = anew_below v.level (unkept kept told sup new) (starts_of (v.level - 1) e (starts_at v.level moving (Ok a.bytes))) in
      let keys = keys_below (keys_at v.level a.bytes) e.high in
      rw (
        a.is,
        walk_again (trail_below v.level sup new) sup old new e v a same.block low is,
        upto_block P below sup old v a e.high later,
        fits_level moving v.level a.bytes (upto (below v a.bytes) e.high) e.high (block_keys a.bytes sup.fsid v a.passes).ascend,
      )
      (by keys (fits (starts_at v.level moving (Ok a.bytes)) (upto (below v a.bytes) e.high) e.high) a.bytes a.entries others (trail_below v.level sup new e a.bytes)
      (λ is. sift_below v.level carried e v here_tree same.block.tree same.block.address a.bytes is later))
    where
      by : (b x : Bool) (bytes : List ℕ) (entries : List Seen) (others : Records) (rest : Trail) → (b ≡ true → Yields kept told x others rest)
          → Yields kept told (b && x) (behind (told e) others) (if b then after (visit_of e bytes entries ∷ []) rest else Err (high_finding e bytes))
      by true x bytes entries others rest is = yields_own kept told x e bytes entries others rest stays (is refl)
      by false x bytes entries others rest is = tt
