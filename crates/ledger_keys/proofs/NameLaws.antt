-- An account of a name is found by its place and its side: no two accounts have both.
use Rattle.std.proofs.Common.{◌≡◌, ◌-◌, ◌^◌, ◌<◌, ◌++◌, ◌==◌, ◌&&◌, ℕ, Bool, true, false, cond, List, length, take, drop, refl, ap, sym, ◌∙◌, subst, nat_eq}
use Rattle.std.specs.Prelude.{Option, Some, None, nat_lt}
use Rattle.std.specs.Cmp.Lexicographic.{pointwise}
use Rattle.std.proofs.lemmas.Bool.{eqb-true, ltb-true}
use Rattle.std.proofs.lemmas.List.{take-append-drop}
use Rattle.verdict.proofs.Answers.{some_is}
use Rattle.accounts.specs.Sums.{is_same}
use Rattle.accounts.specs.declared.account.Account.{Account}
use Rattle.ledger_keys.specs.declared.long_place.LongPlace.{LongPlace}
use Rattle.ledger_keys.specs.declared.name.Name.{Name}
use Rattle.ledger_keys.specs.declared.name.Side.{Side}
use Rattle.ledger_keys.specs.declared.name.Side.TheVariants.{Entry, Link}
use Rattle.ledger_keys.specs.LongPlace as longer
use Rattle.ledger_keys.specs.LongPlace.{is_same_long}
use Rattle.ledger_keys.specs.LongPlaceLaws.{own_long, same_long}
use Rattle.ledger_keys.specs.Name.{account_at, behind, is_same_name, link_of, name_at, name_of, of_entry, of_link}
use Rattle.ledger_keys.specs.PlaceLaws.{both, join, own, same_bytes}
use Rattle.ledger_keys.specs.Side.{is_same_side, number_of}
use Rattle.ledger_keys.proofs.PlaceLaws.{alike, of_long_place}

same_side : (s t : Side) → is_same_side s t ≡ true → s ≡ t
same_side (Entry x) (Entry y) is = ap Entry (eqb-true x y is)
same_side (Link x) (Link y) is = ap Link (eqb-true x y is)
same_side (Entry x) (Link y) is = absurd (cc is)
same_side (Link x) (Entry y) is = absurd (cc is)

pub own_side : (s : Side) → is_same_side s s ≡ true
own_side (Entry x) = own x
own_side (Link x) = own x

pub same_name : (x y : Name) → is_same_name x y ≡ true → x ≡ y
same_name x y is =
    let parts = both (is_same_long x.place y.place) _ is in
    let e1 = same_long x.place y.place parts.0 in
    let e2 = same_side x.side y.side parts.1 in
    λ i. record { place = e1 i; side = e2 i }

pub own_name : (x : Name) → is_same_name x x ≡ true
own_name x = join _ _ (own_long x.place) (own_side x.side)

-- what the place of a link says of it
link_says : (block tree inode dir : ℕ) (name : List ℕ) (p : LongPlace) → link_of block tree inode dir name ≡ Some p
    → ◌≡◌ {A = Account} (longer.account_of p) (record { kind = 12; tree = tree; block = block; key = record { objectid = inode; kind = 12; offset = dir }; detail = 0; tail = name })
unfolding link_of
link_says block tree inode dir name p is = of_long_place _ p is

module _ (a : Account) (x : Name) where
  -- of the link
  link_case : (side : Side) (block tree inode dir : ℕ) (name : List ℕ) (place : Option LongPlace) → link_of block tree inode dir name ≡ place
      → name_at side place ≡ Some x
      → (longer.account_of x.place ≡ record { kind = 12; tree = tree; block = block; key = record { objectid = inode; kind = 12; offset = dir }; detail = 0; tail = name })
      × (side ≡ x.side)
  link_case side block tree inode dir name None at is = absurd (cc is)
  link_case side block tree inode dir name (Some p) at is =
      let e : record { place = p; side = side } ≡ x = some_is _ _ is in
      (ap (λ (y : Name). longer.account_of y.place) (sym e) ∙ link_says block tree inode dir name p at, ap (λ (y : Name). y.side) e)

  of_link_case : (b : Bool) → nat_lt a.detail (2 ^ 32) ≡ b → a.kind ≡ 12 → a.key.kind ≡ 12
      → cond b (name_at (Link a.detail) (link_of a.block a.tree a.key.objectid a.key.offset a.tail)) None ≡ Some x → account_at x.place x.side ≡ a
  of_link_case false small kind sort is = absurd (cc is)
  of_link_case true small kind sort is =
      let says = link_case (Link a.detail) a.block a.tree a.key.objectid a.key.offset a.tail _ refl is in
      let whole = says.0 in
      ap (λ s. account_at x.place s) (sym says.1) ∙ (λ i. record {
        kind = sym kind i;
        tree = ap (λ (b : Account). b.tree) whole i;
        block = ap (λ (b : Account). b.block) whole i;
        key = record {
          objectid = ap (λ (b : Account). b.key.objectid) whole i;
          kind = sym sort i;
          offset = ap (λ (b : Account). b.key.offset) whole i;
        };
        detail = a.detail;
        tail = ap (λ (b : Account). b.tail) whole i;
      })

  of_entry_case : (b : Bool) → (pointwise nat_eq (drop (length a.tail - 2) a.tail) behind && nat_lt a.key.offset (2 ^ 32)) ≡ b → a.kind ≡ 11 → a.key.kind ≡ 84
      → cond b (name_at (Entry a.key.offset) (link_of a.block a.tree a.detail a.key.objectid (take (length a.tail - 2) a.tail))) None ≡ Some x
      → account_at x.place x.side ≡ a
  of_entry_case false tested kind sort is = absurd (cc is)
  of_entry_case true tested kind sort is =
      let says = link_case (Entry a.key.offset) a.block a.tree a.detail a.key.objectid (take (length a.tail - 2) a.tail) _ refl is in
      let whole = says.0 in
      let last : drop (length a.tail - 2) a.tail ≡ behind = same_bytes (drop (length a.tail - 2) a.tail) behind (both _ (nat_lt a.key.offset (2 ^ 32)) tested).0 in
      let tail : take x.place.length x.place.tail ++ behind ≡ a.tail =
      ap (λ (b : Account). b.tail ++ behind) whole ∙ ap (λ ys. take (length a.tail - 2) a.tail ++ ys) (sym last) ∙ take-append-drop (length a.tail - 2) a.tail in
      ap (λ s. account_at x.place s) (sym says.1) ∙ (λ i. record {
        kind = sym kind i;
        tree = ap (λ (b : Account). b.tree) whole i;
        block = ap (λ (b : Account). b.block) whole i;
        key = record {
          objectid = ap (λ (b : Account). b.key.offset) whole i;
          kind = sym sort i;
          offset = a.key.offset;
        };
        detail = ap (λ (b : Account). b.key.objectid) whole i;
        tail = tail i;
      })

  name_case : (b c : Bool) → (a.kind == 12 && a.key.kind == 12) ≡ b → (a.kind == 11 && a.key.kind == 84) ≡ c
      → cond b (of_link a) (cond c (of_entry a) None) ≡ Some x → account_at x.place x.side ≡ a
  name_case true c is1 is2 is =
      let parts = both (a.kind == 12) (a.key.kind == 12) is1 in
      of_link_case (nat_lt a.detail (2 ^ 32)) refl (eqb-true a.kind 12 parts.0) (eqb-true a.key.kind 12 parts.1) is
  name_case false true is1 is2 is =
      let parts = both (a.kind == 11) (a.key.kind == 84) is2 in
      of_entry_case _ refl (eqb-true a.kind 11 parts.0) (eqb-true a.key.kind 84 parts.1) is
  name_case false false is1 is2 is = absurd (cc is)

-- the number of a side is below 2^32
module _ (a : Account) (x : Name) where
  side_case : (side : Side) (place : Option LongPlace) → number_of side < 2 ^ 32 → name_at side place ≡ Some x → number_of x.side < 2 ^ 32
  side_case side None small is = absurd (cc is)
  side_case side (Some p) small is =
      let e : record { place = p; side = side } ≡ x = some_is _ _ is in subst (λ (y : Name). number_of y.side < 2 ^ 32) e small

  small_link : (b : Bool) → nat_lt a.detail (2 ^ 32) ≡ b
      → cond b (name_at (Link a.detail) (link_of a.block a.tree a.key.objectid a.key.offset a.tail)) None ≡ Some x → number_of x.side < 2 ^ 32
  small_link false small is = absurd (cc is)
  small_link true small is = side_case (Link a.detail) _ (ltb-true a.detail (2 ^ 32) small) is

  small_entry : (b : Bool) → (pointwise nat_eq (drop (length a.tail - 2) a.tail) behind && nat_lt a.key.offset (2 ^ 32)) ≡ b
      → cond b (name_at (Entry a.key.offset) (link_of a.block a.tree a.detail a.key.objectid (take (length a.tail - 2) a.tail))) None ≡ Some x
      → number_of x.side < 2 ^ 32
  small_entry false small is = absurd (cc is)
  small_entry true small is =
      side_case (Entry a.key.offset) _ (ltb-true a.key.offset (2 ^ 32) (both (pointwise nat_eq (drop (length a.tail - 2) a.tail) behind) _ small).1) is

  small_case : (b c : Bool) → cond b (of_link a) (cond c (of_entry a) None) ≡ Some x → number_of x.side < 2 ^ 32
  small_case true c is = small_link (nat_lt a.detail (2 ^ 32)) refl is
  small_case false true is = small_entry _ refl is
  small_case false false is = absurd (cc is)

pub small_number : (a : Account) (x : Name) → name_of a ≡ Some x → number_of x.side < 2 ^ 32
unfolding name_of
small_number a x is = small_case a x (a.kind == 12 && a.key.kind == 12) (a.kind == 11 && a.key.kind == 84) is

-- a name and a side say their account whole
pub of_name : (a : Account) (x : Name) → name_of a ≡ Some x → account_at x.place x.side ≡ a
unfolding name_of
of_name a x is = name_case a x (a.kind == 12 && a.key.kind == 12) (a.kind == 11 && a.key.kind == 84) refl refl is

pub names_alike : (a b : Account) (x y : Name) → name_of a ≡ Some x → name_of b ≡ Some y → is_same_name x y ≡ is_same a b
names_alike = alike name_of (λ x. account_at x.place x.side) is_same_name of_name same_name own_name
