-- The blocks on one level of a walk lie apart, in the order of their keys.
use Rattle.std.proofs.Common.{◌≡◌, ℕ, zero, suc, ◌<◌, ◌≤◌, Bool, true, false, List, [], ◌∷◌, ◌⊎◌, inl, inr, refl, ap, sym, subst, ◌∙◌, arith}
use Rattle.std.specs.Prelude.{Option, Some, Result, Ok, Err}
use Rattle.std.proofs.lemmas.Grind.{common_steps}
use Rattle.live_index.proofs.PlaceLaws.{same_name}
use Rattle.tree_laws.proofs.Sharing.{first_is}
use Rattle.verdict.proofs.Truth.{and_parts}
use Rattle.verdict.specs.OnDisk.{key_below}
use Rattle.verdict.specs.declared.key.Key.{Key}
use Rattle.super_reader.specs.declared.Super.{Super}
use Rattle.node_reader.specs.Layout.{count_of, entry_key, entry_size, pointers_of}
use Rattle.node_reader.specs.Stored.{CopyFault, Stored}
use Rattle.node_reader.specs.declared.expect.Expect.{Expect}
use Rattle.node_reader.specs.declared.expect.Pointer.{Pointer}
use Rattle.records.specs.Walk.{child_of, children_of, high_of}
use Rattle.walk_laws.specs.WalkOrder.{AllAbove, Ascend}
use Rattle.walk_laws.proofs.Blocks.{block_keys}
use Rattle.walk_laws.proofs.Keys.{NoneBelow}
use Rattle.tree_laws.specs.Keeping.{first_in, live_at}
use Rattle.tree_laws.specs.Skips.{is_below}
use Rattle.tree_laws.proofs.Accepted.{LowFits, accepts, keys_at, visit_of, walk_accepted}
use Rattle.tree_laws.proofs.Bounds.{below_self, below_through, keys_below}
use Rattle.tree_laws.proofs.Climbing.{Table}
use Rattle.tree_laws.proofs.Lasting.{low_fits, first_of_each}
use Rattle.tree_laws.proofs.Ordering.{from_trans, not_less}
use Rattle.tree_laws.proofs.Trails.{Trail, after, then_trail, trail_and, trail_below, trail_of, trails}
use Rattle.tree_laws.proofs.Visiting.{Visits, visits_after, visits_both, visits_map, visits_then, visits_then_first, visits_then_later}
use Rattle.tree_laws.proofs.Within.{keys_fit, node_keys, pointer_keys, rest_of}

-- one of these pointers has this address
abbrev pub AtAddress : ℕ → List Pointer → Type 0
AtAddress address [] = ⊥
AtAddress address (pointer ∷ pointers) = (pointer.address ≡ address) ⊎ AtAddress address pointers

-- the pointers of what is stored
abbrev pub pointers_in : Result (List ℕ) CopyFault → List Pointer
pointers_in (Err fault) = []
pointers_in (Ok bytes) = pointers_of bytes

-- no pointer's key is below a key
abbrev pub AllFrom : Key → List Pointer → Type 0
AllFrom low [] = Unit {0}
AllFrom low (pointer ∷ pointers) = (key_below pointer.key low ≡ false) × AllFrom low pointers

all_from : (low : Key) (pointers : List Pointer) → NoneBelow (Some low) (pointer_keys pointers) → AllFrom low pointers
all_from low [] none = tt
all_from low (pointer ∷ pointers) none = (none.0, all_from low pointers none.1)

above_from : (low : Key) (pointers : List Pointer) → AllAbove low (pointer_keys pointers) → AllFrom low pointers
above_from low [] above = tt
above_from low (pointer ∷ pointers) above = (behind low pointer.key above.0, above_from low pointers above.1)
  where
    behind : (a b : Key) → key_below a b ≡ true → key_below b a ≡ false
    behind a b less = grind (arith, common_steps)

module _ (table : Table) (sup : Super) (stored : Stored) where
  abbrev pub of : ℕ → Expect → Trail
  of level = trail_and (trail_below level sup stored) sup stored

  -- a table has what is known of a block
  abbrev pub Known : Expect → Type 0
  Known v = table v.address ≡ Some (live_at sup stored v)

  -- the first key of a block
  abbrev pub first_at : Expect → Key
  first_at w = first_in (stored w.address)

  -- the first key of a child is that of its pointer
  pub first_child : (level : ℕ) (c : Expect) (key : Key) → c.low ≡ Some key → Visits Known (of level c) → first_at c ≡ key
  first_child level c key low all =
      let a = accepts Known (trail_below level sup stored) sup stored c all in
      let fits : LowFits (Some key) c.level a.bytes = subst (λ l. LowFits l c.level a.bytes) low (low_fits sup stored c a) in
      first_is sup stored c a fits.0 ∙ sym (same_name key (entry_key a.bytes (entry_size c.level) 0) fits.1)

  -- a block lies from a first key on, and below a bound
  pub record IsIn (low : Key) (high : Option Key) (w : Expect) : Type 0 where
    pub least : key_below (first_at w) low ≡ false
    pub below : is_below (first_at w) high ≡ true
    pub inside : (key : Key) → is_below key w.high ≡ true → is_below key high ≡ true

  -- a block on the level of another lies before it or behind it
  abbrev pub IsApart : Expect → Expect → Type 0
  IsApart v w = w.level ≡ v.level → (key_below (first_at v) (first_at w) ≡ false) ⊎ (is_below (first_at w) v.high ≡ false)

  -- what is below a child is inside its node
  in_node : (pointers : List Pointer) (high : Option Key) → keys_below (pointer_keys pointers) high ≡ true → (key : Key) → is_below key (high_of pointers high) ≡ true → is_below key high ≡ true
  in_node [] high keys key below = below
  in_node (next ∷ pointers) high keys key below =
      below_through key next.key high below (and_parts (is_below next.key high) (keys_below (pointer_keys pointers) high) keys).0

  in_children : (level : ℕ) → ((c : Expect) (key : Key) → c.low ≡ Some key → c.level ≡ level → Visits Known (of level c) → Visits (IsIn key c.high) (of level c))
      → (e : Expect) (low : Key) (pointers : List Pointer) → keys_below (pointer_keys pointers) e.high ≡ true → AllFrom low pointers
      → Visits Known (trails (of level) (children_of level e pointers)) → Visits (IsIn low e.high) (trails (of level) (children_of level e pointers))
  in_children level within e low [] keys from all = tt
  in_children level within e low (pointer ∷ pointers) keys from all =
      let c : Expect = child_of level e pointer (high_of pointers e.high) in
      let rest = trails (of level) (children_of level e pointers) in
      let less = (and_parts (is_below pointer.key e.high) (keys_below (pointer_keys pointers) e.high) keys).1 in
      visits_then (IsIn low e.high) (of level c) rest
      (visits_map (IsIn pointer.key c.high) (IsIn low e.high) (of level c) (wider less) (within c pointer.key refl refl (visits_then_first Known (of level c) rest all)))
      (in_children level within e low pointers less from.1 (visits_then_later Known (of level c) rest all))
    where
      wider : keys_below (pointer_keys pointers) e.high ≡ true → (w : Expect) → IsIn pointer.key (high_of pointers e.high) w → IsIn low e.high w
      wider less w is = record {
        least = from_trans (first_at w) pointer.key low from.0 is.least;
        below = in_node pointers e.high less (first_at w) is.below;
        inside = λ key below. in_node pointers e.high less key (is.inside key below);
      }

  in_block : (level : ℕ) (c : Expect) (key : Key) → c.low ≡ Some key → c.level ≡ level
      → ((bytes : List ℕ) → keys_below (keys_at level bytes) c.high ≡ true → NoneBelow (Some key) (keys_at level bytes) → Visits Known (trail_below level sup stored c bytes) → Visits (IsIn key c.high) (trail_below level sup stored c bytes))
      → Visits Known (of level c) → Visits (IsIn key c.high) (of level c)
  in_block level c key low at within all =
      let below = trail_below level sup stored in
      let a = accepts Known below sup stored c all in
      let first : first_at c ≡ key = first_child level c key low all in
      let fits : LowFits (Some key) c.level a.bytes = subst (λ l. LowFits l c.level a.bytes) low (low_fits sup stored c a) in
      let keys = keys_fit sup stored c a in
      let list = first_of_each (entry_key a.bytes (entry_size c.level)) (count_of a.bytes) fits.0 in
      let under : is_below (entry_key a.bytes (entry_size c.level) 0) c.high ≡ true =
      (and_parts (is_below (entry_key a.bytes (entry_size c.level) 0) c.high) (keys_below list.0 c.high) (subst (λ ks. keys_below ks c.high ≡ true) list.1 keys)).0 in
      let here : IsIn key c.high c = record {
        least = subst (λ k. key_below k key ≡ false) (sym first) (below_self key);
        below = subst (λ k. is_below k c.high ≡ true) (sym (first_is sup stored c a fits.0)) under;
        inside = λ k is. is;
      } in
      subst (Visits (IsIn key c.high)) (sym (walk_accepted below sup stored c a))
      (visits_after (IsIn key c.high) (visit_of c a.bytes a.entries ∷ []) (below c a.bytes) (here, tt)
      (within a.bytes (subst (λ n. keys_below (keys_at n a.bytes) c.high ≡ true) at keys)
      (subst (λ n. NoneBelow (Some key) (keys_at n a.bytes)) at (subst (λ l. NoneBelow l (keys_at c.level a.bytes)) low (block_keys a.bytes sup.fsid c a.passes).from))
      (rest_of Known below sup stored c a all)))

  in_below : (level : ℕ) (c : Expect) (key : Key) (bytes : List ℕ) → keys_below (keys_at level bytes) c.high ≡ true → NoneBelow (Some key) (keys_at level bytes)
      → Visits Known (trail_below level sup stored c bytes) → Visits (IsIn key c.high) (trail_below level sup stored c bytes)
  unfolding trail_below
  in_below zero c key bytes keys from all = tt
  in_below (suc level) c key bytes keys from all =
      in_children level (λ d k low at more. in_block level d k low at (in_below level d k) more) c key (pointers_of bytes)
      (subst (λ ks. keys_below ks c.high ≡ true) (node_keys level bytes) keys)
      (all_from key (pointers_of bytes) (subst (λ ks. NoneBelow (Some key) ks) (node_keys level bytes) from)) all

  -- a block is the child of another that is visited too
  pub record HasNode (w : Expect) : Type 0 where
    pub u : Expect
    pub above : w.parent ≡ u.address
    pub pointer : AtAddress w.address (pointers_in (stored u.address))

  abbrev pub IsUnder : ℕ → Expect → Type 0
  IsUnder level w = (w.level < level) × HasNode w

  abbrev pub IsFrom : ℕ → Expect → Expect → Type 0
  IsFrom level e w = (w.level ≤ level) × ((w ≡ e) ⊎ HasNode w)

  node_children : (level : ℕ) → ((c : Expect) → c.level ≡ level → Visits Known (of level c) → Visits (IsFrom level c) (of level c))
      → (e : Expect) (pointers : List Pointer) → ((a : ℕ) → AtAddress a pointers → AtAddress a (pointers_in (stored e.address)))
      → Visits Known (trails (of level) (children_of level e pointers)) → Visits (IsUnder (suc level)) (trails (of level) (children_of level e pointers))
  node_children level from e [] among all = tt
  node_children level from e (pointer ∷ pointers) among all =
      let c : Expect = child_of level e pointer (high_of pointers e.high) in
      let rest = trails (of level) (children_of level e pointers) in
      visits_then (IsUnder (suc level)) (of level c) rest
      (visits_map (IsFrom level c) (IsUnder (suc level)) (of level c) (λ w h. let most : w.level ≤ level = h.0 in (omega (arith, most), by w h.1)) (from c refl (visits_then_first Known (of level c) rest all)))
      (node_children level from e pointers (λ a at. among a (inr at)) (visits_then_later Known (of level c) rest all))
    where
      by : (w : Expect) → (w ≡ child_of level e pointer (high_of pointers e.high)) ⊎ HasNode w → HasNode w
      by w (inl same) = record {
        u = e;
        above = ap (λ (x : Expect). x.parent) same;
        pointer = subst (λ a. AtAddress a (pointers_in (stored e.address))) (sym (ap (λ (x : Expect). x.address) same)) (among pointer.address (inl refl));
      }
      by w (inr node) = node

  node_block : (level : ℕ) (e : Expect) → e.level ≡ level
      → ((bytes : List ℕ) → stored e.address ≡ Ok bytes → Visits Known (trail_below level sup stored e bytes) → Visits (IsUnder level) (trail_below level sup stored e bytes))
      → Visits Known (of level e) → Visits (IsFrom level e) (of level e)
  node_block level e at under all =
      let below = trail_below level sup stored in
      let a = accepts Known below sup stored e all in
      subst (Visits (IsFrom level e)) (sym (walk_accepted below sup stored e a))
      (visits_after (IsFrom level e) (visit_of e a.bytes a.entries ∷ []) (below e a.bytes) ((omega (arith, at), inl refl), tt)
      (visits_map (IsUnder level) (IsFrom level e) (below e a.bytes) (λ w h. let less : w.level < level = h.0 in (omega (arith, less), inr h.1))
      (under a.bytes a.is (rest_of Known below sup stored e a all))))

  node_below : (level : ℕ) (e : Expect) (bytes : List ℕ) → stored e.address ≡ Ok bytes → Visits Known (trail_below level sup stored e bytes) → Visits (IsUnder level) (trail_below level sup stored e bytes)
  unfolding trail_below
  node_below zero e bytes is all = tt
  node_below (suc level) e bytes is all =
      node_children level (λ c at. node_block level c at (node_below level c)) e (pointers_of bytes)
      (λ a at. subst (λ b. AtAddress a (pointers_in b)) (sym is) at) all

  pub nodes : (root : Expect) → Visits Known (trail_of sup stored root) → Visits (IsFrom root.level root) (trail_of sup stored root)
  nodes root all = node_block root.level root refl (node_below root.level root) all

  -- two trails one after the other, where each block of the one lies apart from each of the other
  apart_then : (first later : Trail) → Visits (λ v. Visits (IsApart v) first) first → Visits (λ v. Visits (IsApart v) later) first
      → Visits (λ v. Visits (IsApart v) first) later → Visits (λ v. Visits (IsApart v) later) later
      → Visits (λ v. Visits (IsApart v) (then_trail first later)) (then_trail first later)
  apart_then first later a b c d =
      visits_then (λ v. Visits (IsApart v) (then_trail first later)) first later
      (visits_map (λ v. Visits (IsApart v) first × Visits (IsApart v) later) (λ v. Visits (IsApart v) (then_trail first later)) first
      (λ v h. visits_then (IsApart v) first later h.0 h.1) (visits_both (λ v. Visits (IsApart v) first) (λ v. Visits (IsApart v) later) first a b))
      (visits_map (λ v. Visits (IsApart v) first × Visits (IsApart v) later) (λ v. Visits (IsApart v) (then_trail first later)) later
      (λ v h. visits_then (IsApart v) first later h.0 h.1) (visits_both (λ v. Visits (IsApart v) first) (λ v. Visits (IsApart v) later) later c d))

  -- what holds of each block of one trail and of another holds of each pair
  across : (A B : Expect → Type 0) (R : Expect → Expect → Type 0) (first later : Trail) → ((v w : Expect) → A v → B w → R v w) → Visits A first → Visits B later → Visits (λ v. Visits (R v) later) first
  across A B R first later pair all more = visits_map A (λ v. Visits (R v) later) first (λ v a. visits_map B (R v) later (λ w b. pair v w a b) more) all

  behind_of : (b : Bool) (key q : Key) → (b ≡ true → key_below key q ≡ true) → key_below key q ≡ false → b ≡ false
  behind_of true key q inside over = let h : key_below key q ≡ true = inside refl in absurd (cc)
  behind_of false key q inside over = refl

  -- a child and those behind it
  crosses : (level : ℕ) (e : Expect) (pointer : Pointer) (pointers : List Pointer) → keys_below (pointer_keys pointers) e.high ≡ true → Ascend (pointer_keys pointers)
      → Visits (IsIn pointer.key (high_of pointers e.high)) (of level (child_of level e pointer (high_of pointers e.high)))
      → Visits Known (trails (of level) (children_of level e pointers))
      → Visits (λ v. Visits (IsApart v) (trails (of level) (children_of level e pointers))) (of level (child_of level e pointer (high_of pointers e.high)))
      × Visits (λ v. Visits (IsApart v) (of level (child_of level e pointer (high_of pointers e.high)))) (trails (of level) (children_of level e pointers))
  crosses level e pointer [] keys ascend inner all =
      (visits_map (IsIn pointer.key e.high) (λ v. Unit {0}) (of level (child_of level e pointer e.high)) (λ v h. tt) inner, tt)
  crosses level e pointer (next ∷ pointers) keys ascend inner all =
      let c : Expect = child_of level e pointer (Some next.key) in
      let A = IsIn pointer.key (Some next.key) in
      let B = IsIn next.key e.high in
      let rest = trails (of level) (children_of level e (next ∷ pointers)) in
      let outer : Visits B rest =
      in_children level (λ d k low at more. in_block level d k low at (in_below level d k) more) e next.key (next ∷ pointers) keys (below_self next.key, above_from next.key pointers ascend.0) all in (
        across A B IsApart (of level c) rest (λ v w a b same. inr (behind_of (is_below (first_at w) v.high) (first_at w) next.key (a.inside (first_at w)) b.least)) inner outer,
        across B A IsApart rest (of level c) (λ v w b a same. inl (not_less (first_at v) (first_at w) next.key a.below b.least)) outer inner,
      )

  apart_children : (level : ℕ) → ((c : Expect) → c.level ≡ level → Visits Known (of level c) → Visits (λ v. Visits (IsApart v) (of level c)) (of level c))
      → (e : Expect) (pointers : List Pointer) → keys_below (pointer_keys pointers) e.high ≡ true → Ascend (pointer_keys pointers) → Visits Known (trails (of level) (children_of level e pointers))
      → Visits (λ v. Visits (IsApart v) (trails (of level) (children_of level e pointers))) (trails (of level) (children_of level e pointers))
  apart_children level apart e [] keys ascend all = tt
  apart_children level apart e (pointer ∷ pointers) keys ascend all =
      let c : Expect = child_of level e pointer (high_of pointers e.high) in
      let rest = trails (of level) (children_of level e pointers) in
      let here : Visits Known (of level c) = visits_then_first Known (of level c) rest all in
      let later : Visits Known rest = visits_then_later Known (of level c) rest all in
      let less = (and_parts (is_below pointer.key e.high) (keys_below (pointer_keys pointers) e.high) keys).1 in
      let both = crosses level e pointer pointers less ascend.1 (in_block level c pointer.key refl refl (in_below level c pointer.key) here) later in
      apart_then (of level c) rest (apart c refl here) both.0 both.1 (apart_children level apart e pointers less ascend.1 later)

  apart_block : (level : ℕ) (e : Expect) → e.level ≡ level
      → ((bytes : List ℕ) → keys_below (keys_at level bytes) e.high ≡ true → Ascend (keys_at level bytes) → Visits Known (trail_below level sup stored e bytes) → Visits (λ v. Visits (IsApart v) (trail_below level sup stored e bytes)) (trail_below level sup stored e bytes))
      → Visits Known (of level e) → Visits (λ v. Visits (IsApart v) (of level e)) (of level e)
  apart_block level e at apart all =
      let below = trail_below level sup stored in
      let a = accepts Known below sup stored e all in
      let own = visit_of e a.bytes a.entries ∷ [] in
      let rest = below e a.bytes in
      let later : Visits Known rest = rest_of Known below sup stored e a all in
      let lower : Visits (IsUnder level) rest = node_below level e a.bytes a.is later in
      let inner : Visits (λ v. Visits (IsApart v) rest) rest =
      apart a.bytes (subst (λ n. keys_below (keys_at n a.bytes) e.high ≡ true) at (keys_fit sup stored e a))
      (subst (λ n. Ascend (keys_at n a.bytes)) at (block_keys a.bytes sup.fsid e a.passes).ascend) later in
      subst (λ t. Visits (λ v. Visits (IsApart v) t) t) (sym (walk_accepted below sup stored e a))
      (visits_after (λ v. Visits (IsApart v) (after own rest)) own rest (
        visits_after (IsApart e) own rest ((λ same. inl (below_self (first_at e))), tt)
            (visits_map (IsUnder level) (IsApart e) rest (λ w under same. let less : w.level < level = under.0 in absurd (omega (arith, less, same, at))) lower),
        tt,
      )
      (visits_map (λ v. IsUnder level v × Visits (IsApart v) rest) (λ v. Visits (IsApart v) (after own rest)) rest
      (λ v h. visits_after (IsApart v) own rest ((λ same. let less : v.level < level = h.0.0 in absurd (omega (arith, less, same, at))), tt) h.1)
      (visits_both (IsUnder level) (λ v. Visits (IsApart v) rest) rest lower inner)))

  apart_below : (level : ℕ) (e : Expect) (bytes : List ℕ) → keys_below (keys_at level bytes) e.high ≡ true → Ascend (keys_at level bytes) → Visits Known (trail_below level sup stored e bytes)
      → Visits (λ v. Visits (IsApart v) (trail_below level sup stored e bytes)) (trail_below level sup stored e bytes)
  unfolding trail_below
  apart_below zero e bytes keys ascend all = tt
  apart_below (suc level) e bytes keys ascend all =
      apart_children level (λ c at. apart_block level c at (apart_below level c)) e (pointers_of bytes)
      (subst (λ ks. keys_below ks e.high ≡ true) (node_keys level bytes) keys) (subst (λ ks. Ascend ks) (node_keys level bytes) ascend) all

  pub apart : (e : Expect) → Visits Known (trail_of sup stored e) → Visits (λ v. Visits (IsApart v) (trail_of sup stored e)) (trail_of sup stored e)
  apart e all = apart_block e.level e refl (apart_below e.level e) all
