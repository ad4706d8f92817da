-- The numbers of keys and pointers have their sizes.
use Rattle.std.proofs.Common.{◌≡◌, ℕ, ◌+◌, ◌<◌, ◌^◌, List, [], ◌∷◌, ◌++◌, length, get_or, take, ◌≤◌, sym, subst, arith, inl, inr}
use Rattle.std.proofs.lemmas.Bool.{cases_lt}
use Rattle.std.proofs.lemmas.List.{get_or_append_left, get_or_push, length_push, take_more, take_all}
use Rattle.verdict.specs.declared.key.Key.{Key}
use Rattle.image_maker.specs.declared.leaf_item.LeafItem.{LeafItem}
use Rattle.image_maker.specs.declared.node.ChildPointer.{ChildPointer}
use Rattle.image_maker.specs.Sizes.{IsKey, HaveKeys, no_item, IsPointer, ArePointers, no_pointer}

pub no_keys : HaveKeys []
no_keys = record { each = λ place inside. absurd (omega arith) }

pub keys_after_item : (xs : List LeafItem) (x : LeafItem) → HaveKeys xs → x.key.objectid < 2 ^ 64 → x.key.offset < 2 ^ 64 → HaveKeys (xs ++ x ∷ [])
keys_after_item xs x have objectid offset = record {
  each = λ place inside. elim (cases_lt place (length xs)) [
    | inl below ↦ subst (λ (i : LeafItem). IsKey i.key) (sym (get_or_append_left xs (x ∷ []) no_item place below)) (have.each place below)
    | inr past ↦
        let here : length xs ≡ place = omega (arith, length_push xs x) in
        subst (λ (i : LeafItem). IsKey i.key) (sym (get_or_push xs x no_item place here)) (record { objectid = objectid; offset = offset })
  ];
}

pub no_pointers : (ps : List ChildPointer) → ArePointers (take 0 ps)
no_pointers ps = record { each = λ place inside. absurd (omega arith) }

pointers_after_one : (xs : List ChildPointer) (x : ChildPointer) → ArePointers xs → IsPointer x → ArePointers (xs ++ x ∷ [])
pointers_after_one xs x have is = record {
  each = λ place inside. elim (cases_lt place (length xs)) [
    | inl below ↦ subst IsPointer (sym (get_or_append_left xs (x ∷ []) no_pointer place below)) (have.each place below)
    | inr past ↦
        let here : length xs ≡ place = omega (arith, length_push xs x) in
        subst IsPointer (sym (get_or_push xs x no_pointer place here)) is
  ];
}

pub pointers_more : (ps : List ChildPointer) (i : ℕ) (d : ChildPointer) → i < length ps → ArePointers (take i ps) → IsPointer (get_or ps i d) → ArePointers (take (i + 1) ps)
pointers_more ps i d inside have is =
    subst ArePointers (sym (take_more ps i d inside)) (pointers_after_one (take i ps) (get_or ps i d) have is)

pub pointers_all : (ps : List ChildPointer) (i : ℕ) → length ps ≤ i → ArePointers (take i ps) → ArePointers ps
pointers_all ps i past have = subst ArePointers (take_all i ps past) have

pub key_sizes : (key : Key) → key.objectid < 2 ^ 64 → key.offset < 2 ^ 64 → IsKey key
key_sizes key objectid offset = record { objectid = objectid; offset = offset }

pub pointer_sizes : (p : ChildPointer) → IsKey p.key → p.address < 2 ^ 64 → p.generation < 2 ^ 64 → IsPointer p
pointer_sizes p key address generation = record { key = key; address = address; generation = generation }

pub ruleset pointer_steps = (no_pointers, pointers_more, pointers_all)
