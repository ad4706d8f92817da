-- The least broken account of those of names, one name and one side after the other.
use Rattle.std.proofs.Common.{◌≡◌, ◌<◌, ◌^◌, ◌&&◌, ◌||◌, ℕ, Bool, true, false, cond, List, [], ◌∷◌, ◌⊎◌, inl, inr, refl, ap, sym, ◌∙◌, subst, arith}
use Rattle.std.specs.Prelude.{Option, Some, None, is_some}
use Rattle.std.specs.Map.{lookup}
use Rattle.std.proofs.Math.Path.{fun_ext}
use Rattle.verdict.proofs.Answers.{some_is}
use Rattle.accounts.specs.declared.account.Account.{Account}
use Rattle.accounts.specs.Broken.{is_broken}
use Rattle.accounts.specs.Least.{IsLeastBroken}
use Rattle.ledger_keys.specs.declared.kept.Kept.{Kept}
use Rattle.ledger_keys.specs.declared.long_place.LongPlace.{LongPlace}
use Rattle.ledger_keys.specs.declared.name.Name.{Name}
use Rattle.ledger_keys.specs.declared.name.Side.{Side}
use Rattle.ledger_keys.specs.declared.name.Side.TheVariants.{Entry, Link}
use Rattle.ledger_index.specs.declared.unpaged.Unpaged.{Unpaged}
use Rattle.ledger_maps.specs.Entries.{by_parts, entries_in}
use Rattle.ledger_index.specs.Judged.{IsLeastBut, lesser_of}
use Rattle.ledger_keys.specs.Kept.{kept_sum, sums_at}
use Rattle.ledger_keys.specs.LongPlace.{is_same_long, part_of}
use Rattle.ledger_keys.specs.LongPlaceLaws.{same_long}
use Rattle.ledger_keys.specs.Name.{account_at, name_of}
use Rattle.ledger_index.specs.Named.{IsHere, is_link, is_link_at, is_within, left_links, left_names}
use Rattle.ledger_maps.specs.Names.{names_in}
use Rattle.ledger_keys.specs.Side.{has_sums, side_of}
use Rattle.ledger_index.specs.Singles as single
use Rattle.ledger_index.specs.Unpaged.{sums_of}
use Rattle.ledger_index.proofs.JudgedLaws.{judged, none_in, unbroken}
use Rattle.ledger_keys.proofs.NameLaws.{of_name, small_number}
use Rattle.ledger_maps.proofs.NamesLaws.{nothing_had}
use Rattle.ledger_keys.proofs.SideLaws.{side_is, stands_number}
use Rattle.ledger_index.proofs.UnpagedLaws.{at_free, at_has, at_none, rule_of}
use Rattle.verdict.proofs.Numbers.{not_differs}

-- which accounts are passed
module _ (names : Name → ℕ → ℕ) (entries : List (LongPlace × Kept)) (p : LongPlace) (kept : Kept)
    (there : (t : Name) → t.place ≡ p → has_sums (names t) ≡ has_sums (side_of (kept_sum kept) t.side)) where
  -- the accounts of an entry are those of its two sides
  entry_case : (a : Account) (t : Name) (b h : Bool) → name_of a ≡ Some t → is_same_long t.place p ≡ b → has_sums (side_of (kept_sum kept) t.side) ≡ h
      → (side : Option Side) → ((hash : ℕ) → hash < 2 ^ 32 → kept_sum kept 7 ≡ hash → side ≡ Some (Entry hash))
      → ((is_some (lookup (is_same_long t.place) entries) && has_sums (names t)) || (b && (is_link t.side && h))) ≡ false
      → ((is_some (cond b (Some kept) (lookup (is_same_long t.place) entries)) && has_sums (names t)) ≡ false) ⊎ IsHere p kept side a
  entry_case a t false h at same has side here past = inl (or_left _ _ past)
    where
      or_left : (x y : Bool) → (x || y) ≡ false → x ≡ false
      or_left true y is = is
      or_left false y is = refl
  entry_case a t true false at same has side here past = inl (there t (same_long t.place p same) ∙ has)
  entry_case a t true true at same has side here past = go t.side refl
    where
      or_right : (x y : Bool) → (x || y) ≡ false → y ≡ false
      or_right true y is = absurd (cc is)
      or_right false y is = is

      go : (s : Side) → t.side ≡ s → ((true && has_sums (names t)) ≡ false) ⊎ IsHere p kept side a
      go (Link index) is =
          absurd (cc (sym (or_right ((is_some (lookup (is_same_long t.place) entries) && has_sums (names t))) _ past) ∙ ap (λ k. is_link k && true) is))
      go (Entry hash) is =
          let name_is = at ∙ ap Some (λ i. record { place = same_long t.place p same i; side = is i }) in
          let has_is : has_sums (side_of (kept_sum kept) (Entry hash)) ≡ true = ap (λ k. has_sums (side_of (kept_sum kept) k)) (sym is) ∙ has in
          inr (record {
            which = Entry hash;
            side_is = here hash (small_number a (record { place = p; side = Entry hash }) name_is) (stands_number (kept_sum kept) (Entry hash) has_is);
            name_is = name_is;
            has = has_is;
          })

  link_case : (a : Account) (t : Name) (b h : Bool) → name_of a ≡ Some t → is_same_long t.place p ≡ b → has_sums (side_of (kept_sum kept) t.side) ≡ h
      → (side : Option Side) → ((index : ℕ) → index < 2 ^ 32 → kept_sum kept 8 ≡ index → side ≡ Some (Link index))
      → (is_some (lookup (is_same_long t.place) entries) && has_sums (names t)) ≡ false
      → (((is_some (lookup (is_same_long t.place) entries) && has_sums (names t)) || (b && (is_link t.side && h))) ≡ false) ⊎ IsHere p kept side a
  link_case a t false h at same has side here past = inl (ap (λ x. x || false) past)
  link_case a t true h at same has side here past = go t.side h refl has
    where
      go : (s : Side) (k : Bool) → t.side ≡ s → has_sums (side_of (kept_sum kept) t.side) ≡ k
          → (((is_some (lookup (is_same_long t.place) entries) && has_sums (names t)) || (true && (is_link s && k))) ≡ false) ⊎ IsHere p kept side a
      go (Entry hash) k is has' = inl (ap (λ x. x || false) past)
      go (Link index) false is has' = inl (ap (λ x. x || false) past)
      go (Link index) true is has' =
          let name_is = at ∙ ap Some (λ i. record { place = same_long t.place p same i; side = is i }) in
          let has_is : has_sums (side_of (kept_sum kept) (Link index)) ≡ true = ap (λ s. has_sums (side_of (kept_sum kept) s)) (sym is) ∙ has' in
          inr (record {
            which = Link index;
            side_is = here index (small_number a (record { place = p; side = Link index }) name_is) (stands_number (kept_sum kept) (Link index) has_is);
            name_is = name_is;
            has = has_is;
          })

  pub entry_passed : (side : Option Side) → ((hash : ℕ) → hash < 2 ^ 32 → kept_sum kept 7 ≡ hash → side ≡ Some (Entry hash))
      → (a : Account) → left_links names entries p kept a ≡ false → (left_names names ((p, kept) ∷ entries) a ≡ false) ⊎ IsHere p kept side a
  unfolding left_links left_names
  entry_passed side here a past = go (name_of a) refl past
    where
      go : (o : Option Name) → name_of a ≡ o → (is_within names entries o || is_link_at p kept o) ≡ false → (is_within names ((p, kept) ∷ entries) o ≡ false) ⊎ IsHere p kept side a
      go None at past = inl refl
      go (Some t) at past = entry_case a t (is_same_long t.place p) (has_sums (side_of (kept_sum kept) t.side)) at refl refl side here past

  pub link_passed : (side : Option Side) → ((index : ℕ) → index < 2 ^ 32 → kept_sum kept 8 ≡ index → side ≡ Some (Link index))
      → (a : Account) → left_names names entries a ≡ false → (left_links names entries p kept a ≡ false) ⊎ IsHere p kept side a
  unfolding left_links left_names
  link_passed side here a past = go (name_of a) refl past
    where
      go : (o : Option Name) → name_of a ≡ o → is_within names entries o ≡ false → ((is_within names entries o || is_link_at p kept o) ≡ false) ⊎ IsHere p kept side a
      go None at past = inl refl
      go (Some t) at past = link_case a t (is_same_long t.place p) (has_sums (side_of (kept_sum kept) t.side)) at refl refl side here past

  -- or both at once
  record IsIn (a : Account) : Type 0 where
    name : Name
    name_is : name_of a ≡ Some name
    place_is : name.place ≡ p
    has : has_sums (side_of (kept_sum kept) name.side) ≡ true

  both_case : (a : Account) (t : Name) (b h : Bool) → name_of a ≡ Some t → is_same_long t.place p ≡ b → has_sums (side_of (kept_sum kept) t.side) ≡ h
      → (is_some (lookup (is_same_long t.place) entries) && has_sums (names t)) ≡ false
      → ((is_some (cond b (Some kept) (lookup (is_same_long t.place) entries)) && has_sums (names t)) ≡ false) ⊎ IsIn a
  both_case a t false h at same has past = inl past
  both_case a t true false at same has past = inl (there t (same_long t.place p same) ∙ has)
  both_case a t true true at same has past = inr (record { name = t; name_is = at; place_is = same_long t.place p same; has = has })

  both_passed : (a : Account) → left_names names entries a ≡ false → (left_names names ((p, kept) ∷ entries) a ≡ false) ⊎ IsIn a
  unfolding left_names
  both_passed a past = go (name_of a) refl past
    where
      go : (o : Option Name) → name_of a ≡ o → is_within names entries o ≡ false → (is_within names ((p, kept) ∷ entries) o ≡ false) ⊎ IsIn a
      go None at past = inl refl
      go (Some t) at past = both_case a t (is_same_long t.place p) (has_sums (side_of (kept_sum kept) t.side)) at refl refl past

module _ (unpaged : Unpaged) where
  -- the sums of an account that has some in the entry of its name
  here_is : (p : LongPlace) (kept : Kept) → by_parts is_same_long part_of unpaged.names.parts.items p ≡ Some kept → (a : Account) (s : Side) → name_of a ≡ Some (record { place = p; side = s })
      → has_sums (side_of (kept_sum kept) s) ≡ true → (n : ℕ) → n < 2 → sums_of unpaged a n ≡ side_of (kept_sum kept) s n
  here_is p kept there a s at has n low =
      at_has unpaged a (record { place = p; side = s }) at (ap (λ o. has_sums (side_of (sums_at o) s)) there ∙ has) n low ∙ ap (λ o. side_of (sums_at o) s n) there

  keeps : (a : Account) (t : Name) → name_of a ≡ Some t → sums_of unpaged a 0 ≡ sums_of unpaged a 1 → is_broken a (sums_of unpaged a) ≡ false
  keeps a t at even = rule_of a t at (sums_of unpaged a) ∙ not_differs (sums_of unpaged a 0) (sums_of unpaged a 1) even

  module _ (p : LongPlace) (kept : Kept) (there : by_parts is_same_long part_of unpaged.names.parts.items p ≡ Some kept) where
    pub has_there : (t : Name) → t.place ≡ p → has_sums (names_in unpaged.names.parts.items t) ≡ has_sums (side_of (kept_sum kept) t.side)
    has_there t is =
        ap (λ q. has_sums (side_of (sums_at (by_parts is_same_long part_of unpaged.names.parts.items q)) t.side)) is ∙ ap (λ o. has_sums (side_of (sums_at o) t.side)) there

    -- a side is judged
    module _ (later after : Account → Bool) (found : Option Account) (is : IsLeastBut (sums_of unpaged) later found) where
      pub no_side : (side : Option Side) → side ≡ None → ((a : Account) → after a ≡ false → (later a ≡ false) ⊎ IsHere p kept side a) → IsLeastBut (sums_of unpaged) after found
      no_side side none gone = unbroken (sums_of unpaged) later after (IsHere p kept side) gone (λ a here. absurd (cc (sym none ∙ here.side_is))) found is

      pub even_side : (s : Side) (side : Option Side) → side ≡ Some s → side_of (kept_sum kept) s 0 ≡ side_of (kept_sum kept) s 1
          → ((a : Account) → after a ≡ false → (later a ≡ false) ⊎ IsHere p kept side a) → IsLeastBut (sums_of unpaged) after found
      even_side s side some even gone =
          unbroken (sums_of unpaged) later after (IsHere p kept side) gone
          (λ a here. (let e : here.which ≡ s = some_is _ _ (sym here.side_is ∙ some) in
          keeps a (record { place = p; side = here.which }) here.name_is
          (here_is p kept there a here.which here.name_is here.has 0 (omega arith)
          ∙ ap (λ k. side_of (kept_sum kept) k 0) e ∙ even ∙ ap (λ k. side_of (kept_sum kept) k 1) (sym e)
          ∙ sym (here_is p kept there a here.which here.name_is here.has 1 (omega arith))))) found is

      pub side_judged : (s : Side) (side : Option Side) → side ≡ Some s → (k : Account) → k ≡ account_at p s → (least : Option Account)
          → least ≡ lesser_of (is_broken k (sums_of unpaged k)) k found
          → ((a : Account) → after a ≡ false → (later a ≡ false) ⊎ IsHere p kept side a) → IsLeastBut (sums_of unpaged) after least
      side_judged s side some k made least so gone =
          subst (IsLeastBut (sums_of unpaged) after) (sym so)
          (judged (sums_of unpaged) later after (IsHere p kept side) gone k
          (λ a here. (let e : here.which ≡ s = some_is _ _ (sym here.side_is ∙ some) in
          sym (of_name a (record { place = p; side = here.which }) here.name_is) ∙ ap (account_at p) e ∙ sym made)) found is)

    -- an entry breaks none
    pub even_kept : (rest : List (LongPlace × Kept)) (found : Option Account) → (kept_sum kept 0 ≡ kept_sum kept 1) × (kept_sum kept 2 ≡ kept_sum kept 3)
        → IsLeastBut (sums_of unpaged) (left_names (names_in unpaged.names.parts.items) ((p, kept) ∷ rest)) found → IsLeastBut (sums_of unpaged) (left_names (names_in unpaged.names.parts.items) rest) found
    even_kept rest found even =
        unbroken (sums_of unpaged) (left_names (names_in unpaged.names.parts.items) ((p, kept) ∷ rest)) (left_names (names_in unpaged.names.parts.items) rest) (IsIn (names_in unpaged.names.parts.items) rest p kept has_there)
        (both_passed (names_in unpaged.names.parts.items) rest p kept has_there)
        (λ a here. (let at = here.name_is ∙ ap Some (λ i. record { place = here.place_is i; side = here.name.side }) in
        keeps a here.name here.name_is
        (here_is p kept there a here.name.side at here.has 0 (omega arith) ∙ even_of here.name.side here.has
        ∙ sym (here_is p kept there a here.name.side at here.has 1 (omega arith))))) found
      where
        even_of : (s : Side) → has_sums (side_of (kept_sum kept) s) ≡ true → side_of (kept_sum kept) s 0 ≡ side_of (kept_sum kept) s 1
        even_of (Entry hash) has =
            let stands = stands_number (kept_sum kept) (Entry hash) has in
            side_is (kept_sum kept) (Entry hash) 0 stands (omega arith) ∙ even.0 ∙ sym (side_is (kept_sum kept) (Entry hash) 1 stands (omega arith))
        even_of (Link index) has =
            let stands = stands_number (kept_sum kept) (Link index) has in
            side_is (kept_sum kept) (Link index) 0 stands (omega arith) ∙ even.1 ∙ sym (side_is (kept_sum kept) (Link index) 1 stands (omega arith))

  -- before the first name
  none_left : (t : Name) → (is_some (lookup (is_same_long t.place) (entries_in unpaged.names.parts.items)) && has_sums (names_in unpaged.names.parts.items t)) ≡ false
      → has_sums (names_in unpaged.names.parts.items t) ≡ false
  none_left t past = go (is_some (lookup (is_same_long t.place) (entries_in unpaged.names.parts.items))) refl past
    where
      none_is : {A : Type 0} (o : Option A) → is_some o ≡ false → o ≡ None
      none_is None is = refl
      none_is (Some a) is = absurd (cc is)

      go : (b : Bool) → is_some (lookup (is_same_long t.place) (entries_in unpaged.names.parts.items)) ≡ b → (b && has_sums (names_in unpaged.names.parts.items t)) ≡ false
          → has_sums (names_in unpaged.names.parts.items t) ≡ false
      go true is past = past
      go false is past =
          nothing_had (by_parts is_same_long part_of unpaged.names.parts.items) t
          (none_is (by_parts is_same_long part_of unpaged.names.parts.items t.place) (none_in is_same_long t.place unpaged.names.parts.items (part_of t.place) is))

  start_case : (a : Account) (o : Option Name) → name_of a ≡ o → is_within (names_in unpaged.names.parts.items) (entries_in unpaged.names.parts.items) o ≡ false
      → is_broken a (single.sums_of unpaged.singles a) ≡ false → is_broken a (sums_of unpaged a) ≡ false
  start_case a None at past keep = ap (is_broken a) (fun_ext (at_none unpaged a at)) ∙ keep
  start_case a (Some t) at past keep = ap (is_broken a) (fun_ext (at_free unpaged a t at (none_left t past))) ∙ keep

  found_case : (l : Account) (o : Option Name) → name_of l ≡ o → is_broken l (single.sums_of unpaged.singles l) ≡ true → is_broken l (sums_of unpaged l) ≡ true
  found_case l None at broken = ap (is_broken l) (fun_ext (at_none unpaged l at)) ∙ broken
  found_case l (Some t) at broken = go (has_sums (names_in unpaged.names.parts.items t)) refl
    where
      go : (h : Bool) → has_sums (names_in unpaged.names.parts.items t) ≡ h → is_broken l (sums_of unpaged l) ≡ true
      go false has = ap (is_broken l) (fun_ext (at_free unpaged l t at has)) ∙ broken
      go true has =
          let z0 = unpaged.once l t at has 0 (omega arith) in
          let z1 = unpaged.once l t at has 1 (omega arith) in
          absurd (cc (sym broken ∙ rule_of l t at (single.sums_of unpaged.singles l) ∙ not_differs _ _ (z0 ∙ sym z1)))

  pub names_start : (found : Option Account) → IsLeastBroken (λ account. is_broken account (single.sums_of unpaged.singles account)) found
      → IsLeastBut (sums_of unpaged) (left_names (names_in unpaged.names.parts.items) (entries_in unpaged.names.parts.items)) found
  unfolding IsLeastBut left_names
  names_start None least = λ a past. start_case a (name_of a) refl past (least a)
  names_start (Some l) least = (found_case l (name_of l) refl least.0, λ a past less. start_case a (name_of a) refl past (least.1 a less))

  -- and behind the last
  none_within : (o : Option Name) → is_within (names_in unpaged.names.parts.items) [] o ≡ false
  none_within None = refl
  none_within (Some t) = refl

  pub names_end : (found : Option Account) → IsLeastBut (sums_of unpaged) (left_names (names_in unpaged.names.parts.items) []) found → IsLeastBroken (λ account. is_broken account (sums_of unpaged account)) found
  unfolding IsLeastBut left_names
  names_end None least = λ a. least a (none_within (name_of a))
  names_end (Some l) least = (least.0, λ a less. least.1 a (none_within (name_of a)) less)
