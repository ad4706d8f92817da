-- What an account of a name says of the link, if the account is not made.
use Rattle.std.proofs.Common.{◌≡◌, ◌-◌, ◌<◌, ◌++◌, ◌^◌, ◌==◌, ◌&&◌, ◌⊎◌, inl, inr, ℕ, Bool, true, false, cond, List, [], ◌∷◌, length, take, drop, refl, ap, sym, ◌∙◌, not, arith, nat_eq}
use Rattle.std.specs.Prelude.{Option, None, nat_lt}
use Rattle.std.specs.Cmp.Lexicographic.{pointwise}
use Rattle.std.proofs.Math.Seq.{drop-append_seam, take-append_seam}
use Rattle.std.proofs.lemmas.Bool.{lt-ltb}
use Rattle.std.proofs.lemmas.List.{length-append}
use Rattle.verdict.specs.declared.key.Key.{Key}
use Rattle.accounts.specs.Kinds.{name_entry}
use Rattle.accounts.specs.Lent.{account_lent}
use Rattle.accounts.specs.declared.name.NameAccount.{NameAccount}
use Rattle.accounts.specs.declared.name.NameAccount.TheVariants as lent
use Rattle.ledger_keys.specs.declared.name.Name.{Name}
use Rattle.ledger_keys.specs.declared.name.Side.TheVariants.{Entry}
use Rattle.ledger_keys.specs.Name.{behind, link_of, name_at, name_of}
use Rattle.ledger_keys.specs.Seat.{seat_of}

ap2 : {A B C : Type 0} (f : A → B → C) {a b : A} {c d : B} → a ≡ b → c ≡ d → f a c ≡ f b d
ap2 f p q = λ i. f (p i) (q i)

-- how long the name before two bytes is
length_but_two : (name : List ℕ) (x y : ℕ) → length (name ++ x ∷ y ∷ []) - 2 ≡ length name
length_but_two name x y = omega (arith, length-append name (x ∷ y ∷ []))

-- the two bytes behind a name, and the name
behind_front : (name : List ℕ) (x y : ℕ) → drop (length (name ++ x ∷ y ∷ []) - 2) (name ++ x ∷ y ∷ []) ≡ x ∷ y ∷ []
behind_front name x y = ap (λ n. drop n (name ++ x ∷ y ∷ [])) (length_but_two name x y) ∙ drop-append_seam name (x ∷ y ∷ [])

front_only : (name : List ℕ) (x y : ℕ) → take (length (name ++ x ∷ y ∷ []) - 2) (name ++ x ∷ y ∷ []) ≡ name
front_only name x y = ap (λ n. take n (name ++ x ∷ y ∷ [])) (length_but_two name x y) ∙ take-append_seam name (x ∷ y ∷ [])

-- the account of an entry of a directory
module _ (tree dir hash : ℕ) (location : Key) (name : List ℕ) (sort : ℕ) where
  abbrev says : Bool → Option Name
  says b = cond (b && nat_lt hash (2 ^ 32)) (name_at (Entry hash) (link_of 0 tree location.objectid dir name)) None

  entry_is : name_of (name_entry tree dir hash location name sort) ≡ says (pointwise nat_eq (sort ∷ location.kind ∷ []) behind)
  unfolding name_of
  entry_is = ap2 (λ (bytes front : List ℕ). cond (pointwise nat_eq bytes behind && nat_lt hash (2 ^ 32)) (name_at (Entry hash) (link_of 0 tree location.objectid dir front)) None)
      (behind_front name sort location.kind) (front_only name sort location.kind)

  -- it says nothing where it is of another type, or of what is no inode
  pub entry_said : (not (sort == 1) ≡ true) ⊎ (not (location.kind == 1) ≡ true) → None ≡ name_of (name_entry tree dir hash location name sort)
  entry_said other = sym (entry_is ∙ ap says (go (sort == 1) (location.kind == 1) other))
    where
      go : (x y : Bool) → (not x ≡ true) ⊎ (not y ≡ true) → (x && (y && true)) ≡ false
      go false y is = refl
      go true false is = refl
      go true true (inl is) = absurd (cc is)
      go true true (inr is) = absurd (cc is)

  -- that of a regular file says its name
  pub entry_regular : sort ≡ 1 → location.kind ≡ 1 → hash < 2 ^ 32
      → name_at (Entry hash) (link_of 0 tree location.objectid dir name) ≡ name_of (name_entry tree dir hash location name sort)
  entry_regular regular inode small = sym (entry_is ∙ ap (λ b. cond b (name_at (Entry hash) (link_of 0 tree location.objectid dir name)) None)
      (ap2 (λ (x y : ℕ). pointwise nat_eq (x ∷ y ∷ []) behind && nat_lt hash (2 ^ 32)) regular inode ∙ lt-ltb hash (2 ^ 32) small))

-- no account of a name has a seat in a page
pub no_seat : (name : NameAccount) → seat_of (account_lent name) ≡ None
unfolding seat_of
no_seat (lent.Entry tree dir hash location name sort) = refl
no_seat (lent.Link tree ino dir index name) = refl
