-- The key of the next pointer of a node is the next first key of a table on the level below.
use Rattle.std.proofs.Common.{◌≡◌, ℕ, suc, ◌==◌, Bool, true, false, List, [], ◌∷◌, ◌⊎◌, inl, inr, refl, ap, sym, subst, ◌∙◌, arith}
use Rattle.std.specs.Prelude.{Option, Some, None, IfSome}
use Rattle.std.proofs.lemmas.Bool.{eqb-true}
use Rattle.std.proofs.lemmas.Grind.{common_steps}
use Rattle.live_index.proofs.PlaceLaws.{same_name}
use Rattle.tree_laws.proofs.Mixing.{same_itself}
use Rattle.verdict.proofs.Numbers.{itself}
use Rattle.verdict.proofs.Truth.{and_parts, never}
use Rattle.verdict.specs.OnDisk.{key_below, key_same}
use Rattle.verdict.specs.declared.key.Key.{Key}
use Rattle.super_reader.specs.declared.Super.{Super}
use Rattle.live_index.specs.Pairs.{IsNextFirst, Pairs, has_first}
use Rattle.live_index.specs.declared.live.Live.{Live}
use Rattle.node_reader.specs.Layout.{count_of, pointer_of, pointers_of}
use Rattle.node_reader.specs.Places.{each_from}
use Rattle.node_reader.specs.Stored.{Stored}
use Rattle.node_reader.specs.declared.expect.Expect.{Expect}
use Rattle.node_reader.specs.declared.expect.Pointer.{Pointer}
use Rattle.records.specs.Walk.{child_of, children_of, high_of, walk_of}
use Rattle.walk_laws.specs.WalkOrder.{Ascend}
use Rattle.walk_laws.proofs.Blocks.{block_keys}
use Rattle.tree_laws.specs.Keeping.{IsKnown, last_in, live_at}
use Rattle.tree_laws.specs.Listed.{up_to}
use Rattle.tree_laws.specs.Skips.{is_below}
use Rattle.tree_laws.proofs.Accepted.{Accepts, keys_at}
use Rattle.tree_laws.proofs.Bounds.{below_self, keys_below, upto}
use Rattle.tree_laws.proofs.Lasting.{lasting}
use Rattle.tree_laws.proofs.Separating.{IsApart, Known, apart, first_at, first_child, of}
use Rattle.tree_laws.proofs.Ordering.{one_key}
use Rattle.tree_laws.proofs.Trails.{Trail, trail_below, trail_of, trails}
use Rattle.tree_laws.proofs.Visiting.{Visits, VisitsOne, visits_map, visits_one, visits_then_first, visits_then_later}
use Rattle.tree_laws.proofs.Within.{bounded, here_of, node_keys, pointer_keys, rest_of, upto_block}

-- one of these keys is this one
abbrev pub AtKey : Key → List Key → Type 0
AtKey key [] = ⊥
AtKey key (one ∷ keys) = (one ≡ key) ⊎ AtKey key keys

under_all : (keys : List Key) (high : Option Key) (key : Key) → AtKey key keys → keys_below keys high ≡ true → is_below key high ≡ true
under_all [] high key at all = elim at [ ]
under_all (one ∷ keys) high key (inl is) all = subst (λ k. is_below k high ≡ true) is (and_parts (is_below one high) (keys_below keys high) all).0
under_all (one ∷ keys) high key (inr later) all = under_all keys high key later (and_parts (is_below one high) (keys_below keys high) all).1

-- the key of each next pointer is the next first key of the level, where it is not above a key
abbrev pub AllNext : Pairs → ℕ → ℕ → Key → List Pointer → Type 0
AllNext pairs tree level last [] = Unit {0}
AllNext pairs tree level last (pointer ∷ pointers) =
    ((next : Option Key) → IsNextFirst pairs tree level pointer.key next → up_to last next ≡ high_of pointers None) × AllNext pairs tree level last pointers

-- a pair with this level and this first key
pub record HasFirst (entry : Option Live) (level : ℕ) (key : Key) : Type 0 where
  pub live : Live
  pub is : entry ≡ Some live
  pub level_is : live.level ≡ level
  pub first : live.first ≡ key

has_it : (entry : Option Live) (live : Live) (level : ℕ) (key : Key) → entry ≡ Some live → live.level ≡ level → live.first ≡ key → has_first level key entry ≡ true
has_it entry live level key is at first = rw (is, at, first, itself level, same_itself key) refl

it_has : (entry : Option Live) (level : ℕ) (key : Key) → has_first level key entry ≡ true → HasFirst entry level key
it_has None level key is = absurd (cc)
it_has (Some live) level key is =
    let both = and_parts (live.level == level) (key_same live.first key) is in
    record { live = live; is = refl; level_is = eqb-true live.level level both.0; first = same_name live.first key both.1 }

no_entries : (entry : ℕ → Pointer) (n : ℕ) → n ≡ 0 → each_from entry 0 n ≡ []
unfolding each_from
no_entries entry n none = rw none refl

no_pointers : (bytes : List ℕ) → count_of bytes ≡ 0 → pointers_of bytes ≡ []
no_pointers bytes none = no_entries (pointer_of bytes) (count_of bytes) none

module _ (pairs : Pairs) (tree : ℕ) (sup : Super) (stored : Stored) where
  -- each pair of the tree on the level of a block lies before it or behind it
  abbrev pub IsAlone : Expect → Type 0
  IsAlone d = (address : ℕ) (live : Live) → pairs tree address ≡ Some live → live.level ≡ d.level
      → (key_below (first_at (pairs tree) sup stored d) live.first ≡ false) ⊎ (is_below live.first d.high ≡ false)

  -- the table has nothing else
  abbrev pub Only : Expect → Type 0
  Only root = (address : ℕ) → IfSome (pairs tree address) (λ live. VisitsOne (IsKnown sup stored tree address live) (trail_of sup stored root))

  pub alone : (root : Expect) → Visits (Known (pairs tree) sup stored) (trail_of sup stored root) → Only root → Visits IsAlone (trail_of sup stored root)
  alone root known only =
      visits_map (λ v. Visits (IsApart (pairs tree) sup stored v) (trail_of sup stored root)) IsAlone (trail_of sup stored root) by (apart (pairs tree) sup stored root known)
    where
      by : (v : Expect) → Visits (IsApart (pairs tree) sup stored v) (trail_of sup stored root) → IsAlone v
      by v all address live is level =
          let one : VisitsOne (IsKnown sup stored tree address live) (trail_of sup stored root) = rw is at (only address) in
          let at = visits_one (IsApart (pairs tree) sup stored v) (IsKnown sup stored tree address live) (trail_of sup stored root) all one in
          let same : live ≡ live_at sup stored at.0 = at.2.live_is in
          subst (λ (l : Live). (key_below (first_at (pairs tree) sup stored v) l.first ≡ false) ⊎ (is_below l.first v.high ≡ false)) (sym same)
          (at.1 (sym (ap (λ (l : Live). l.level) same) ∙ level))

  -- what is known of a child
  abbrev pub IsChild : Expect → Type 0
  IsChild d = Known (pairs tree) sup stored d × IsAlone d

  -- the next pointer's child decides
  next_of_one : (d : Expect) (key k last : Key) → IsAlone d → first_at (pairs tree) sup stored d ≡ key → d.high ≡ Some k → key_below key k ≡ true → key_below last k ≡ false
      → (address : ℕ) → has_first d.level k (pairs tree address) ≡ true
      → (next : Option Key) → IsNextFirst pairs tree d.level key next → up_to last next ≡ Some k
  next_of_one d key k last lone first high less least address has None is = absurd (never (has_first d.level k (pairs tree address)) has (is address k less))
  next_of_one d key k last lone first high less least address has (Some n) is =
      let found : HasFirst (pairs tree is.1.0) d.level n = it_has (pairs tree is.1.0) d.level n is.1.1 in
      let not_before : key_below k n ≡ false = before (key_below k n) refl in
      let same : k ≡ n = one_key k n not_before (behind (lone is.1.0 found.live found.is found.level_is) found.first) in
      subst (λ x. up_to last (Some x) ≡ Some k) same (rw least refl)
    where
      before : (b : Bool) → key_below k n ≡ b → b ≡ false
      before false at = refl
      before true at = absurd (never (has_first d.level k (pairs tree address)) has (is.2 address k less at))

      behind : {f : Key} → (key_below (first_at (pairs tree) sup stored d) f ≡ false) ⊎ (is_below f d.high ≡ false) → f ≡ n → key_below n k ≡ false
      behind {f} (inl a) at =
          let h : key_below key n ≡ false = subst (λ x. key_below x n ≡ false) first (subst (λ x. key_below (first_at (pairs tree) sup stored d) x ≡ false) at a) in
          absurd (never (key_below key n) is.0 h)
      behind {f} (inr a) at = subst (λ h. is_below n h ≡ false) high (subst (λ x. is_below x d.high ≡ false) at a)

  -- behind the last one no pair is up to the greatest key
  last_of_all : (d : Expect) (key last : Key) → IsAlone d → first_at (pairs tree) sup stored d ≡ key → is_below last d.high ≡ true
      → (next : Option Key) → IsNextFirst pairs tree d.level key next → up_to last next ≡ None
  last_of_all d key last lone first under None is = refl
  last_of_all d key last lone first under (Some n) is =
      let found : HasFirst (pairs tree is.1.0) d.level n = it_has (pairs tree is.1.0) d.level n is.1.1 in
      rw (behind (lone is.1.0 found.live found.is found.level_is) found.first) refl
    where
      past : (high : Option Key) → is_below last high ≡ true → is_below n high ≡ false → key_below last n ≡ true
      past None low over = absurd (cc)
      past (Some high) low over = grind (arith, common_steps)

      behind : {f : Key} → (key_below (first_at (pairs tree) sup stored d) f ≡ false) ⊎ (is_below f d.high ≡ false) → f ≡ n → key_below last n ≡ true
      behind {f} (inl a) at =
          let h : key_below key n ≡ false = subst (λ x. key_below x n ≡ false) first (subst (λ x. key_below (first_at (pairs tree) sup stored d) x ≡ false) at a) in
          absurd (never (key_below key n) is.0 h)
      behind {f} (inr a) at = past d.high under (subst (λ x. is_below x d.high ≡ false) at a)

  -- the children of a node
  next_children : (level : ℕ) (last : Key) (v : Expect) (pointers : List Pointer) → ((k : Key) → AtKey k (pointer_keys pointers) → key_below last k ≡ false) → is_below last v.high ≡ true → Ascend (pointer_keys pointers)
      → Visits IsChild (trails (of (pairs tree) sup stored level) (children_of level v pointers)) → AllNext pairs tree level last pointers
  next_children level last v [] most high ascend all = tt
  next_children level last v (pointer ∷ pointers) most high ascend all =
      (by pointers most ascend here later, next_children level last v pointers (λ k at. most k (inr at)) high ascend.1 later)
    where
      on : Expect → Trail
      on = of (pairs tree) sup stored level

      here : Visits IsChild (on (child_of level v pointer (high_of pointers v.high)))
      here = visits_then_first IsChild (on (child_of level v pointer (high_of pointers v.high))) (trails on (children_of level v pointers)) all

      later : Visits IsChild (trails on (children_of level v pointers))
      later = visits_then_later IsChild (on (child_of level v pointer (high_of pointers v.high))) (trails on (children_of level v pointers)) all

      known : (c : Expect) → Visits IsChild (on c) → Visits (Known (pairs tree) sup stored) (on c)
      known c visits = visits_map IsChild (Known (pairs tree) sup stored) (on c) (λ w h. h.0) visits

      by : (pointers : List Pointer) → ((k : Key) → AtKey k (pointer_keys (pointer ∷ pointers)) → key_below last k ≡ false) → Ascend (pointer_keys (pointer ∷ pointers))
          → Visits IsChild (on (child_of level v pointer (high_of pointers v.high))) → Visits IsChild (trails on (children_of level v pointers))
          → (next : Option Key) → IsNextFirst pairs tree level pointer.key next → up_to last next ≡ high_of pointers None
      by [] most ascend here later =
          let d : Expect = child_of level v pointer v.high in
          let at : IsChild d = here_of IsChild (trail_below level sup stored) sup stored d here in
          last_of_all d pointer.key last at.1 (first_child (pairs tree) sup stored level d pointer.key refl (known d here)) high
      by (other ∷ pointers) most ascend here later =
          let d : Expect = child_of level v pointer (Some other.key) in
          let n : Expect = child_of level v other (high_of pointers v.high) in
          let at : IsChild d = here_of IsChild (trail_below level sup stored) sup stored d here in
          let there : Visits IsChild (on n) = visits_then_first IsChild (on n) (trails on (children_of level v pointers)) later in
          let is : IsChild n = here_of IsChild (trail_below level sup stored) sup stored n there in
          next_of_one d pointer.key other.key last at.1 (first_child (pairs tree) sup stored level d pointer.key refl (known d here)) refl ascend.0.0 (most other.key (inr (inl refl)))
          n.address (has_it (pairs tree n.address) (live_at sup stored n) level other.key is.0 refl (first_child (pairs tree) sup stored level n other.key refl (known n there)))

  -- a node's own keys are not above its greatest one
  own_most : (v : Expect) (level : ℕ) → v.level ≡ suc level → (a : Accepts sup stored v) → (count_of a.bytes == 0) ≡ false → Visits IsChild (trail_of sup stored v)
      → (k : Key) → AtKey k (pointer_keys (pointers_of a.bytes)) → key_below (last_in (walk_of sup stored v)) k ≡ false
  own_most v level at a some all k is = by (key_below (last_in (walk_of sup stored v)) k) refl
    where
      by : (b : Bool) → key_below (last_in (walk_of sup stored v)) k ≡ b → b ≡ false
      by false low = refl
      by true low =
          let whole : upto (trail_of sup stored v) (Some k) ≡ true = sym (lasting IsChild sup stored v a (Some k) some all) ∙ low in
          let split = upto_block IsChild (trail_below v.level sup stored) sup stored v a (Some k) (rest_of IsChild (trail_below v.level sup stored) sup stored v a all) in
          let keys : keys_below (keys_at v.level a.bytes) (Some k) ≡ true =
          (and_parts (keys_below (keys_at v.level a.bytes) (Some k)) (upto (trail_below v.level sup stored v a.bytes) (Some k)) (sym split ∙ whole)).0 in
          let mine : keys_below (pointer_keys (pointers_of a.bytes)) (Some k) ≡ true =
          subst (λ ks. keys_below ks (Some k) ≡ true) (node_keys level a.bytes) (subst (λ n. keys_below (keys_at n a.bytes) (Some k) ≡ true) at keys) in
          absurd (never (key_below k k) (under_all (pointer_keys (pointers_of a.bytes)) (Some k) k is mine) (below_self k))

  pub below_is : (level : ℕ) (v : Expect) (bytes : List ℕ) → Visits IsChild (trail_below (suc level) sup stored v bytes) → Visits IsChild (trails (of (pairs tree) sup stored level) (children_of level v (pointers_of bytes)))
  unfolding trail_below
  below_is level v bytes all = all

  -- the next keys of a node's pointers
  pub next_keys : (v : Expect) (level : ℕ) → v.level ≡ suc level → (a : Accepts sup stored v) → Visits IsChild (trail_of sup stored v)
      → AllNext pairs tree level (last_in (walk_of sup stored v)) (pointers_of a.bytes)
  next_keys v level at a all = by (count_of a.bytes == 0) refl
    where
      by : (b : Bool) → (count_of a.bytes == 0) ≡ b → AllNext pairs tree level (last_in (walk_of sup stored v)) (pointers_of a.bytes)
      by true none = subst (λ ps. AllNext pairs tree level (last_in (walk_of sup stored v)) ps) (sym (no_pointers a.bytes (eqb-true (count_of a.bytes) 0 none))) tt
      by false some =
          let rest : Visits IsChild (trail_below (suc level) sup stored v a.bytes) = subst (λ n. Visits IsChild (trail_below n sup stored v a.bytes)) at (rest_of IsChild (trail_below v.level sup stored) sup stored v a all) in
          next_children level (last_in (walk_of sup stored v)) v (pointers_of a.bytes) (own_most v level at a some all)
          (lasting IsChild sup stored v a v.high some all ∙ bounded IsChild v.level sup stored v refl all)
          (subst (λ ks. Ascend ks) (node_keys level a.bytes) (subst (λ n. Ascend (keys_at n a.bytes)) at (block_keys a.bytes sup.fsid v a.passes).ascend))
          (below_is level v a.bytes rest)
