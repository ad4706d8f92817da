-- What is kept of changes, after one more.
use Rattle.std.proofs.Common.{◌≡◌, ℕ, Bool, true, false, cond, ◌&&◌, ◌||◌, List, [], ◌∷◌, ◌++◌, refl, sym, ap, ◌∙◌}
use Rattle.std.specs.Prelude.{◌==◌, Option, Some, slice_get, Result, Ok, Err, OnOk, OnErr}
use Rattle.std.specs.Option.{unwrap_or}
use Rattle.std.specs.Ordering.{nat_cmp, ordering_then}
use Rattle.std.specs.Cmp.{unsigned_tied}
use Rattle.std.specs.BTreeMap as map
use Rattle.std.specs.BTreeMap.{is_at}
use Rattle.std.specs.BTreeSet as set
use Rattle.std.specs.Map.{lookup}
use Rattle.std.specs.Option.{is_some}
use Rattle.verdict.specs.OnDisk.{key_same}
use Rattle.change_records.specs.declared.item_ref.ItemRef.{ItemRef}
use Rattle.change_records.specs.declared.kept.Inode.{Inode}
use Rattle.change_records.specs.Refs.{ref_cmp}
use Rattle.std.proofs.Common.{◌+◌, ◌*◌, ◌<◌, suc, arith, length, get_or, drop, drop-cons, subst}
use Rattle.std.specs.Prelude.{IsSome}
use Rattle.std.specs.List.{Contains}
use Rattle.std.proofs.lemmas.Bool.{and_from, and_parts, both_ways, eq-eqb, eqb-true}
use Rattle.std.proofs.Common.{inl, inr}
use Rattle.std.proofs.lemmas.List.{get_or_default, length-append}
use Rattle.std.proofs.lemmas.List.Quantifiers.{all_pairs_push}
use Rattle.std.proofs.lemmas.List.Elements.{Contains-push_cases}
use Rattle.verdict.proofs.Truth.{then_tied, and_alike as both, or_swapped}
use Rattle.records.specs.declared.rec.ItemAt.{ItemAt}
use Rattle.change_records.specs.declared.changes.ItemChange.{ItemChange}
use Rattle.change_records.specs.declared.changes.ItemChange.TheVariants.{Altered}
use Rattle.change_records.specs.declared.kept.Made.{Made}
use Rattle.change_records.specs.Refs.{is_named, names, stands_at}
use Rattle.change_records.specs.SumFree.{flag_at, sum_free_after, without_flag}
use Rattle.change_records.specs.Made.{AreOnce, IsApplied, IsMade, IsPut, IsTaken, ListsOneMore, flag_by, has_name}
use Rattle.change_records.specs.Listed.{AreListed, inode_cmp}

pub tied_ref : (k q : ItemRef) → is_at (ref_cmp k) q ≡ (k.tree == q.tree && key_same k.key q.key)
tied_ref k q =
    then_tied (nat_cmp k.tree q.tree) (ordering_then (nat_cmp k.key.objectid q.key.objectid) (ordering_then (nat_cmp k.key.kind q.key.kind) (nat_cmp k.key.offset q.key.offset)))
    ∙ both _ _ _ _ (unsigned_tied k.tree q.tree)
    (then_tied (nat_cmp k.key.objectid q.key.objectid) (ordering_then (nat_cmp k.key.kind q.key.kind) (nat_cmp k.key.offset q.key.offset))
    ∙ both _ _ _ _ (unsigned_tied k.key.objectid q.key.objectid)
    (then_tied (nat_cmp k.key.kind q.key.kind) (nat_cmp k.key.offset q.key.offset)
    ∙ both _ _ _ _ (unsigned_tied k.key.kind q.key.kind) (unsigned_tied k.key.offset q.key.offset)))

pub tied_inode : (k q : Inode) → is_at (inode_cmp k) q ≡ (k.tree == q.tree && k.ino == q.ino)
tied_inode k q = then_tied (nat_cmp k.tree q.tree) (nat_cmp k.ino q.ino) ∙ both _ _ _ _ (unsigned_tied k.tree q.tree) (unsigned_tied k.ino q.ino)

either : (a b : Bool) → cond a true b ≡ (a || b)
either true b = refl
either false b = refl

pub name_put : (m n : set.BTreeSet ItemRef) (k at : ItemRef) → set.Updates ref_cmp m n k true
    → set.contains ref_cmp n at ≡ ((k.tree == at.tree && key_same k.key at.key) || set.contains ref_cmp m at)
name_put m n k at updates = updates.0 at ∙ ap (λ b. cond b true (set.contains ref_cmp m at)) (tied_ref k at) ∙ either (k.tree == at.tree && key_same k.key at.key) (set.contains ref_cmp m at)

unwrap_cond : (b free other : Bool) (o : Option Bool) → unwrap_or (cond b (Some free) o) other ≡ cond b free (unwrap_or o other)
unwrap_cond true free other o = refl
unwrap_cond false free other o = refl

pub flag_put : (m n : map.BTreeMap Inode Bool) (k : Inode) (free : Bool) (t i : ℕ) (other : Bool) → map.Updates inode_cmp m n k (Some free)
    → unwrap_or (map.get inode_cmp n (record { tree = t; ino = i })) other
    ≡ cond (k.tree == t && k.ino == i) free (unwrap_or (map.get inode_cmp m (record { tree = t; ino = i })) other)
flag_put m n k free t i other updates =
    ap (λ o. unwrap_or o other) (updates.0 (record { tree = t; ino = i }) ∙ ap (λ b. cond b (Some free) (map.get inode_cmp m (record { tree = t; ino = i }))) (tied_inode k (record { tree = t; ino = i })))
    ∙ unwrap_cond (k.tree == t && k.ino == i) free other (map.get inode_cmp m (record { tree = t; ino = i }))

-- ---- the changes, one after the other

-- what is kept of the first changes, and the changes left, are all
pub record IsHalf (olds news : List ItemAt) (all left : List ItemChange) (made : Made) : Type 0 where
  pub named : (at : ItemRef) → (is_named olds news left at || has_name made at) ≡ is_named olds news all at
  pub flags : (tree ino : ℕ) (free : Bool) → sum_free_after olds news tree ino left (flag_by made tree ino free) ≡ sum_free_after olds news tree ino all free
  pub done : ℕ
  pub so_far : done + length left ≡ length all
  pub once : AreOnce made.flags made.inodes.items (2 * done)

or_false : (a : Bool) → (a || false) ≡ a
or_false true = refl
or_false false = refl

pub half_none : (olds news : List ItemAt) (all : List ItemChange) (made : Made) → ((at : ItemRef) → has_name made at ≡ false)
    → ((tree ino : ℕ) (free : Bool) → flag_by made tree ino free ≡ free) → AreOnce made.flags made.inodes.items 0 → IsHalf olds news all all made
half_none olds news all made named flags once = record {
  done = 0;
  so_far = omega arith;
  once = once;
  named = λ at. ap (λ b. is_named olds news all at || b) (named at) ∙ or_false (is_named olds news all at);
  flags = λ tree ino free. ap (sum_free_after olds news tree ino all) (flags tree ino free);
}

half_cons : (olds news : List ItemAt) (all left : List ItemChange) (change : ItemChange) (made more : Made) → IsApplied olds news change made more
    → IsHalf olds news all (change ∷ left) made → IsHalf olds news all left more
unfolding is_named sum_free_after
half_cons olds news all left change made more applied half = record {
  done = half.done + 1;
  so_far = let had : half.done + suc (length left) ≡ length all = half.so_far in omega (arith, had);
  once =
      subst (AreOnce more.flags more.inodes.items) (let same : 2 * half.done + 2 ≡ 2 * (half.done + 1) = omega arith in same) (applied.once (2 * half.done) half.once);
  named = λ at. ap (λ b. is_named olds news left at || b) (applied.named at) ∙ or_swapped (is_named olds news left at) (names olds news at change) (has_name made at) ∙ half.named at;
  flags = λ tree ino free. ap (sum_free_after olds news tree ino left) (applied.flags tree ino free) ∙ half.flags tree ino free;
}

pub next_place : (i : ℕ) → suc i ≡ i + 1
next_place i = omega arith

pub half_more : (olds news : List ItemAt) (all : List ItemChange) (i : ℕ) (d : ItemChange) (made more : Made) → i < length all
    → IsApplied olds news (get_or all i d) made more → IsHalf olds news all (drop i all) made → IsHalf olds news all (drop (i + 1) all) more
half_more olds news all i d made more small applied half =
    half_cons olds news all (drop (i + 1) all) (get_or all i d) made more applied (subst (λ l. IsHalf olds news all l made) (drop-cons all i d small ∙ ap (λ n. get_or all i d ∷ drop n all) (next_place i)) half)

pub half_all : (olds news : List ItemAt) (all : List ItemChange) (made : Made) → IsHalf olds news all [] made → IsMade olds news all made
unfolding is_named sum_free_after
half_all olds news all made half = record {
  named = half.named;
  flags = half.flags;
  once = subst (AreOnce made.flags made.inodes.items)
      (let is : half.done + 0 ≡ length all = half.so_far in let same : 2 * half.done ≡ 2 * length all = omega (arith, is) in same)
      half.once;
}

-- an altered item is taken and put
pub altered : (olds news : List ItemAt) (change : ItemChange) (was is : ℕ) (o n : Option ItemAt) (made taken more : Made) → change ≡ Altered was is → o ≡ slice_get olds was
    → n ≡ slice_get news is → IsTaken made taken o → IsPut taken more n → IsApplied olds news change made more
altered olds news change was is o n made taken more it at_o at_n take put =
    subst (λ c. IsApplied olds news c made more) (sym it) (record {
      named = λ at.
          put.named at ∙ ap (λ b. stands_at at n || b) (take.named at) ∙ or_swapped (stands_at at n) (stands_at at o) (has_name made at)
          ∙ ap (λ x. (stands_at at x || stands_at at n) || has_name made at) at_o ∙ ap (λ x. (stands_at at (slice_get olds was) || stands_at at x) || has_name made at) at_n;
      flags = λ tree ino free.
          put.flags tree ino free ∙ ap (unwrap_or (flag_at tree ino n)) (take.flags tree ino free)
          ∙ ap (λ x. unwrap_or (flag_at tree ino n) (without_flag (flag_at tree ino x) (flag_by made tree ino free))) at_o
          ∙ ap (λ x. unwrap_or (flag_at tree ino x) (without_flag (flag_at tree ino (slice_get olds was)) (flag_by made tree ino free))) at_n;
      once = λ most had.
          subst (AreOnce more.flags more.inodes.items) (let same : most + 1 + 1 ≡ most + 2 = omega arith in same) (put.once (most + 1) (take.once most had));
    })

-- ---- the inodes on the list

pub same_inode : (k q : Inode) → is_at (inode_cmp k) q ≡ true → k ≡ q
same_inode k q is =
    let both = and_parts (k.tree == q.tree) (k.ino == q.ino) (sym (tied_inode k q) ∙ is) in
    let e1 : k.tree ≡ q.tree = eqb-true _ _ both.0 in
    let e2 : k.ino ≡ q.ino = eqb-true _ _ both.1 in
    λ i. record { tree = e1 i; ino = e2 i }

pub listed_put : (m n : map.BTreeMap Inode Bool) (inodes : List Inode) (k : Inode) (free : Bool) → map.Updates inode_cmp m n k (Some free)
    → ((Contains inodes k → ⊥) → ⊥) → AreListed m inodes → AreListed n inodes
listed_put m n inodes k free updates there listed q is missing = by (is_at (inode_cmp k) q) refl
  where
    by : (b : Bool) → is_at (inode_cmp k) q ≡ b → ⊥
    by true e = there (subst (λ x. Contains inodes x → ⊥) (sym (same_inode k q e)) missing)
    by false e = listed q (subst IsSome (updates.0 q ∙ ap (λ b. cond b (Some free) (map.get inode_cmp m q)) e) is) missing

listed_same : (m n : map.BTreeMap Inode Bool) (inodes : List Inode) → n.entries ≡ m.entries → AreListed m inodes → AreListed n inodes
listed_same m n inodes same listed inode is missing =
    listed inode (sym (ap (λ es. is_some (lookup (is_at (inode_cmp inode)) es)) same) ∙ is) missing

pub listed_insert : {T E : Type 0} (m n : map.BTreeMap Inode Bool) (inodes : List Inode) (k : Inode) (free : Bool) (r : Result T E) → ((Contains inodes k → ⊥) → ⊥)
    → OnOk r (map.Updates inode_cmp m n k (Some free)) → OnErr r (n.entries ≡ m.entries) → AreListed m inodes → AreListed n inodes
listed_insert m n inodes k free (Ok x) there updates same listed = listed_put m n inodes k free updates there listed
listed_insert m n inodes k free (Err e) there updates same listed = listed_same m n inodes same listed

-- ---- each inode is on the list once

-- a flag that was there is there behind an update
flag_stays : (m n : map.BTreeMap Inode Bool) (k q : Inode) (free : Bool) → map.Updates inode_cmp m n k (Some free) → IsSome (map.get inode_cmp m q) → IsSome (map.get inode_cmp n q)
flag_stays m n k q free updates had = ap is_some (updates.0 q) ∙ by (is_at (inode_cmp k) q)
  where
    by : (b : Bool) → is_some (cond b (Some free) (map.get inode_cmp m q)) ≡ true
    by true = refl
    by false = had

flag_there : (m n : map.BTreeMap Inode Bool) (k : Inode) (free : Bool) → map.Updates inode_cmp m n k (Some free) → IsSome (map.get inode_cmp n k)
flag_there m n k free updates = ap is_some (updates.0 k) ∙ ap (λ b. is_some (cond b (Some free) (map.get inode_cmp m k))) (tied_inode k k ∙ and_from _ _ (eq-eqb k.tree k.tree refl) (eq-eqb k.ino k.ino refl))

once_push : (m n : map.BTreeMap Inode Bool) (xs : List Inode) (k : Inode) (free : Bool) → map.Updates inode_cmp m n k (Some free) → is_some (map.get inode_cmp m k) ≡ false
    → (most : ℕ) → AreOnce m xs most → AreOnce n (xs ++ k ∷ []) (most + 1)
once_push m n xs k free updates new most had = record {
  distinct = all_pairs_push (λ one other. one ≡ other → ⊥) xs k had.distinct
      (λ i d small same. both_ways _ new (had.flagged k (i, small, sym (get_or_default xs i d k small) ∙ same)));
  flagged = λ q among. elim (Contains-push_cases xs k q among) [
    | inl early ↦ flag_stays m n k q free updates (had.flagged q early)
    | inr last ↦ subst (λ x. IsSome (map.get inode_cmp n x)) last (flag_there m n k free updates)
  ];
  few = let few = had.few in let size = length-append xs (k ∷ []) in omega (arith, few, size);
}

pub once_put : (m n : map.BTreeMap Inode Bool) (xs ys : List Inode) (k : Inode) (free : Bool) → map.Updates inode_cmp m n k (Some free)
    → ys ≡ cond (is_some (map.get inode_cmp m k)) xs (xs ++ k ∷ []) → (most : ℕ) → AreOnce m xs most → AreOnce n ys (most + 1)
once_put m n xs ys k free updates is most had = by (is_some (map.get inode_cmp m k)) refl
  where
    by : (b : Bool) → is_some (map.get inode_cmp m k) ≡ b → AreOnce n ys (most + 1)
    by true e =
        subst (λ l. AreOnce n l (most + 1)) (sym (is ∙ ap (λ b. cond b xs (xs ++ k ∷ [])) e)) (record {
          distinct = had.distinct;
          flagged = λ q among. flag_stays m n k q free updates (had.flagged q among);
          few = let few = had.few in omega (arith, few);
        })
    by false e = subst (λ l. AreOnce n l (most + 1)) (sym (is ∙ ap (λ b. cond b xs (xs ++ k ∷ [])) e)) (once_push m n xs k free updates e most had)

pub once_by : (old mid new : Made) → mid.flags ≡ old.flags → mid.inodes ≡ old.inodes → ListsOneMore mid new → ListsOneMore old new
once_by old mid new flags inodes more most had =
    more most (subst (λ m. AreOnce m mid.inodes.items most) (sym flags) (subst (λ l. AreOnce old.flags l.items most) (sym inodes) had))

pub joined : {T E A B C D : Type 0} (r : Result T E) → OnOk r A → OnOk r B → OnOk r C → (A → B → C → D) → OnOk r D
joined (Ok x) a b c join = join a b c
joined (Err e) a b c join = a
