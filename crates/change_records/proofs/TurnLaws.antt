-- The flags in a set of inodes, turned one after the other.
use Rattle.std.proofs.Common.{◌≡◌, ℕ, ◌+◌, ◌<◌, Bool, true, false, cond, List, [], ◌∷◌, length, get_or, drop, drop-cons, refl, sym, ap, ◌∙◌, subst}
use Rattle.std.specs.Prelude.{Option, Some, None, IsSome}
use Rattle.std.specs.List.{Contains}
use Rattle.std.specs.Option.{unwrap_or}
use Rattle.std.specs.BTreeMap as map
use Rattle.std.specs.BTreeMap.{is_at}
use Rattle.std.specs.BTreeSet as set
use Rattle.std.proofs.lemmas.Bool.{and_from, eq-eqb}
use Rattle.std.proofs.lemmas.Map.Made.{Contains-tail}
use Rattle.change_records.specs.Listed.{AreListed, inode_cmp}
use Rattle.change_records.specs.Made.{flag_by}
use Rattle.change_records.specs.declared.kept.Inode.{Inode}
use Rattle.change_records.specs.declared.kept.Made.{Made}
use Rattle.change_records.proofs.Merge.{contains_none}
use Rattle.change_records.proofs.MadeLaws.{next_place, same_inode, tied_inode}

abbrev has : set.BTreeSet Inode → Inode → Bool
has s q = set.contains inode_cmp s q

-- what the changes make of a flag
abbrev turned : Made → Inode → Bool → Bool
turned made q free = flag_by made q.tree q.ino free

-- The changes still make of each flag what they made of it at first, and the flags of all inodes but those left are turned.
pub record IsTurning (made : Made) (old now : set.BTreeSet Inode) (left : List Inode) : Type 0 where
  pub same : (q : Inode) → turned made q (has now q) ≡ turned made q (has old q)
  pub done : (q : Inode) → (Contains left q → ⊥) → has now q ≡ turned made q (has now q)

unflagged : (o : Option Bool) (free : Bool) → (IsSome o → ⊥) → free ≡ unwrap_or o free
unflagged None free none = refl
unflagged (Some flag) free none = absurd (none refl)

pub turning_none : (made : Made) (old : set.BTreeSet Inode) → AreListed made.flags made.inodes.items → IsTurning made old old made.inodes.items
unfolding flag_by
turning_none made old listed = record {
  same = λ q. refl;
  done = λ q missing. unflagged (map.get inode_cmp made.flags q) (has old q) (λ is. listed q is missing);
}

once : (o : Option Bool) (free : Bool) → unwrap_or o (unwrap_or o free) ≡ unwrap_or o free
once None free = refl
once (Some flag) free = refl

turned_once : (made : Made) (q : Inode) (free : Bool) → turned made q (turned made q free) ≡ turned made q free
unfolding flag_by
turned_once made q free = once (map.get inode_cmp made.flags q) free

at_itself : (k : Inode) → is_at (inode_cmp k) k ≡ true
at_itself k = tied_inode k k ∙ and_from _ _ (eq-eqb k.tree k.tree refl) (eq-eqb k.ino k.ino refl)

other : (k q : Inode) → is_at (inode_cmp k) q ≡ false → k ≡ q → ⊥
other k q apart same = absurd (let no : true ≡ false = sym (at_itself k) ∙ ap (λ x. is_at (inode_cmp k) x) same ∙ apart in cc)

module _ (made : Made) (old now next : set.BTreeSet Inode) (k : Inode) (left : List Inode)
    (updates : set.Updates inode_cmp now next k (turned made k (has now k))) (turning : IsTurning made old now (k ∷ left)) where
  put : (q : Inode) (b : Bool) → is_at (inode_cmp k) q ≡ b → has next q ≡ cond b (turned made k (has now k)) (has now q)
  put q b is = updates.0 q ∙ ap (λ a. cond a (turned made k (has now k)) (has now q)) is

  -- the flag of the inode itself
  itself : has next k ≡ turned made k (has now k)
  itself = put k true (at_itself k)

  same_by : (q : Inode) (b : Bool) → is_at (inode_cmp k) q ≡ b → turned made q (has next q) ≡ turned made q (has old q)
  same_by q true is =
      subst (λ x. turned made x (has next x) ≡ turned made x (has old x)) (same_inode k q is)
      (ap (turned made k) itself ∙ turned_once made k (has now k) ∙ turning.same k)
  same_by q false is = ap (turned made q) (put q false is) ∙ turning.same q

  done_by : (q : Inode) → (Contains left q → ⊥) → (b : Bool) → is_at (inode_cmp k) q ≡ b → has next q ≡ turned made q (has next q)
  done_by q missing true is =
      subst (λ x. has next x ≡ turned made x (has next x)) (same_inode k q is)
      (itself ∙ sym (turned_once made k (has now k)) ∙ ap (turned made k) (sym itself))
  done_by q missing false is =
      put q false is ∙ turning.done q (λ there. missing (Contains-tail k left q (other k q is) there)) ∙ ap (turned made q) (sym (put q false is))

  turning_cons : IsTurning made old next left
  turning_cons = record {
    same = λ q. same_by q (is_at (inode_cmp k) q) refl;
    done = λ q missing. done_by q missing (is_at (inode_cmp k) q) refl;
  }

pub turning_more : (made : Made) (old now next : set.BTreeSet Inode) (all : List Inode) (i : ℕ) (d : Inode) (was free : Bool) → i < length all
    → was ≡ has now (get_or all i d) → free ≡ turned made (get_or all i d) was → set.Updates inode_cmp now next (get_or all i d) free
    → IsTurning made old now (drop i all) → IsTurning made old next (drop (i + 1) all)
turning_more made old now next all i d was free small had gives updates turning =
    turning_cons made old now next (get_or all i d) (drop (i + 1) all)
    (subst (set.Updates inode_cmp now next (get_or all i d)) (gives ∙ ap (turned made (get_or all i d)) had) updates)
    (subst (λ l. IsTurning made old now l) (drop-cons all i d small ∙ ap (λ n. get_or all i d ∷ drop n all) (next_place i)) turning)

pub turning_all : (made : Made) (old now : set.BTreeSet Inode) → IsTurning made old now [] → (q : Inode) → has now q ≡ turned made q (has old q)
turning_all made old now turning q = turning.done q (contains_none q) ∙ turning.same q
