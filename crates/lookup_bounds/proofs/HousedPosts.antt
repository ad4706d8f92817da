-- What the item of an extent posts: otherwise where the chunk around it is not kept, and to each of its sectors.
use Rattle.std.proofs.Common.{◌≡◌, ℕ, zero, suc, ◌+◌, ◌*◌, ◌/◌, ◌<◌, ◌==◌, ◌&&◌, ◌||◌, Bool, true, false, not, List, [], ◌∷◌, ◌++◌, inl}
use Rattle.std.proofs.Common.{inr, refl, sym, ap, ◌∙◌, subst, arith, cond}
use Rattle.std.specs.Prelude.{Option, Some, None, option_map}
use Rattle.std.specs.List.{AllByRecursion, Contains, filter, flat_map, list_any}
use Rattle.std.proofs.lemmas.Bool.{and_parts, eqb-true}
use Rattle.std.proofs.lemmas.List.{append_cancel_left}
use Rattle.std.proofs.lemmas.List.Elements.{All-contains, All-from_recursion}
use Rattle.verdict.specs.Chunks.{home}
use Rattle.verdict.specs.declared.place.Chunk.{Chunk}
use Rattle.extent_items.specs.ExtentRow.{ExtentFields}
use Rattle.accounts.specs.Context.{Context, home_in, home_of}
use Rattle.accounts.specs.Kinds.{group_of, outside, sector}
use Rattle.accounts.specs.declared.account.Account.{Account}
use Rattle.accounts.specs.declared.context.Home.{Home}
use Rattle.accounts.specs.declared.postings.Posting.{Posting}
use Rattle.accounts.proofs.Same.{same_account}
use Rattle.span_index.specs.Sectors.{has_sector}
use Rattle.span_index.specs.declared.span.Span.{Span}
use Rattle.records.specs.DirPostings.{dir_postings}
use Rattle.records.specs.ExtentPostings.{extent_postings}
use Rattle.records.specs.InodePostings.{inode_postings}
use Rattle.records.specs.Part.{Located}
use Rattle.records.specs.Part.Part.{ExtentPart}
use Rattle.records.specs.Postings.{all_postings, postings_of}
use Rattle.records.specs.SpacePostings.{extent_length, is_data, is_to_sector, owned_postings, place_postings, sectors_from, sectors_of}
use Rattle.records.specs.SpacePostings.{space_postings}
use Rattle.change_records.specs.Homes.{StandApart, is_kept}
use Rattle.change_records.proofs.HomeLaws.{home_some}
use Rattle.commit_laws.proofs.Elements.{Among}
use Rattle.commit_laws.proofs.accepted.Sums.{among_left, among_right}
use Rattle.lookup_bounds.specs.Work.{are_same_postings, has_named, is_same_posting, posts_otherwise}
use Rattle.lookup_bounds.proofs.HousedHomes.{holder_some, kept_by}
use Rattle.accounts.specs.Lent.{to}

-- ---- members

pub any_among : {X : Type 0} (p : X → Bool) (xs : List X) (x : X) → Among x xs → p x ≡ true → list_any p xs ≡ true
any_among p [] x has is = elim has [ ]
any_among p (y ∷ xs) x (inl same) is = ap (λ b. b || list_any p xs) (ap p same ∙ is)
any_among p (y ∷ xs) x (inr later) is = or_right (p y) (list_any p xs) (any_among p xs x later is)
  where
    or_right : (a b : Bool) → b ≡ true → (a || b) ≡ true
    or_right true b is = refl
    or_right false b is = is

pub filter_among : {X : Type 0} (p : X → Bool) (xs : List X) (x : X) → Among x xs → p x ≡ true → Among x (filter p xs)
filter_among p [] x has is = elim has [ ]
filter_among {X} p (y ∷ xs) x (inl same) is =
    subst (λ b. Among x (cond b (y ∷ filter p xs) (filter p xs))) (sym (ap p same ∙ is)) (inl same)
filter_among {X} p (y ∷ xs) x (inr later) is = by (p y) (filter_among p xs x later is)
  where
    by : (b : Bool) → Among x (filter p xs) → Among x (cond b (y ∷ filter p xs) (filter p xs))
    by true rest = inr rest
    by false rest = rest

pub flat_among : {X Y : Type 0} (give : X → List Y) (xs : List X) (x : X) (y : Y) → Among x xs → Among y (give x) → Among y (flat_map give xs)
flat_among give [] x y has gives = elim has [ ]
flat_among give (z ∷ xs) x y (inl same) gives =
    among_left y (give z) (flat_map give xs) (subst (λ w. Among y (give w)) (sym same) gives)
flat_among give (z ∷ xs) x y (inr later) gives = among_right y (give z) (flat_map give xs) (flat_among give xs x y later gives)

each_in : {X : Type 0} (xs whole : List X) → ((y : X) → Among y xs → Among y whole) → AllByRecursion (λ y. Among y whole) xs
each_in [] whole into = tt
each_in (x ∷ xs) whole into = (into x (inl refl), each_in xs whole (λ y has. into y (inr has)))

pub among_of : {X : Type 0} (xs : List X) (x : X) → Contains xs x → Among x xs
among_of xs x has = All-contains (λ y. Among y xs) xs x (All-from_recursion (λ y. Among y xs) xs (each_in xs xs (λ y is. is))) has

-- ---- an item that posts otherwise

same_posting : (a b : Posting) → is_same_posting a b ≡ true → a ≡ b
same_posting a b is =
    let first = and_parts _ (a.field == b.field && a.amount == b.amount) is in
    let rest = and_parts (a.field == b.field) (a.amount == b.amount) first.1 in
    let accounts : a.account ≡ b.account = same_account a.account b.account first.0 in
    let fields : a.field ≡ b.field = eqb-true _ _ rest.0 in
    let amounts : a.amount ≡ b.amount = eqb-true _ _ rest.1 in
    λ i. record { account = accounts i; field = fields i; amount = amounts i }

-- lists of postings that are the same by the test are one list
pub same_lists : (xs ys : List Posting) → are_same_postings xs ys ≡ true → xs ≡ ys
unfolding are_same_postings
same_lists [] [] is = refl
same_lists [] (y ∷ ys) is = absurd (cc)
same_lists (x ∷ xs) [] is = absurd (cc)
same_lists (x ∷ xs) (y ∷ ys) is =
    let both = and_parts (is_same_posting x y) (are_same_postings xs ys) is in
    let first = same_posting x y both.0 in
    let rest = same_lists xs ys both.1 in
    λ i. first i ∷ rest i

-- a record posts otherwise where it does so of the space of the volume
pub otherwise_by : (before after : Context) (one : Located)
    → (space_postings before one.tree one.part ≡ space_postings after one.tree one.part → ⊥) → posts_otherwise before after one ≡ true
otherwise_by before after one differs = by (are_same_postings (postings_of before one) (postings_of after one)) refl
  where
    e : List Posting
    e = extent_postings one.tree one.part

    n : List Posting
    n = inode_postings one.tree one.part

    d : List Posting
    d = dir_postings one.tree one.part

    s : Context → List Posting
    s context = space_postings context one.tree one.part

    by : (b : Bool) → are_same_postings (postings_of before one) (postings_of after one) ≡ b → not b ≡ true
    by false is = refl
    by true is =
        absurd (differs (append_cancel_left d (s before) (s after)
        (append_cancel_left n (d ++ s before) (d ++ s after)
        (append_cancel_left e (n ++ (d ++ s before)) (n ++ (d ++ s after)) (same_lists (postings_of before one) (postings_of after one) is)))))

abbrev first_account : Account → List Posting → Account
first_account none [] = none
first_account none (p ∷ ps) = p.account

same_group : (h g : Home) → group_of h ≡ group_of g → h ≡ g
same_group h g is =
    λ i. record { start = (is i).key.objectid; length = (is i).key.offset; class = (is i).detail }

no_group : (h : Home) (address : ℕ) → group_of h ≡ outside address → ⊥
no_group h address is = let kinds : 6 ≡ 8 = ap (λ (a : Account). a.kind) is in absurd (omega (arith, kinds))

-- an extent that posts the same has the same home
same_place : (of_data : Bool) (address m n : ℕ) (h : Home) (o : Option Home)
    → place_postings of_data address m (Some h) ≡ place_postings of_data address n o → o ≡ Some h
same_place of_data address m n h None is = absurd (no_group h address (ap (first_account (group_of h)) is))
same_place of_data address m n h (Some g) is = ap Some (sym (same_group h g (ap (first_account (group_of h)) is)))

-- what is made of a chunk is made of one
pub made_of : (o : Option Chunk) (h : Home) → option_map home_in o ≡ Some h → (d : Chunk) × (o ≡ Some d) × (home_in d ≡ h)
made_of None h is = absurd (cc)
made_of (Some d) h is = (d, refl, one_of (home_in d) h is)
  where
    one_of : (a b : Home) → Some a ≡ Some b → a ≡ b
    one_of a b is = cc

-- an extent in a chunk that another list does not keep posts otherwise there
pub gone_otherwise : (before after : Context) (one : Located) (item : ExtentFields) (c : Chunk) → one.part ≡ ExtentPart item
    → home before.chunks item.key.objectid (extent_length before item) ≡ Some c → 0 < extent_length before item
    → StandApart after.chunks → is_kept after.chunks c ≡ false → posts_otherwise before after one ≡ true
unfolding space_postings
gone_otherwise before after one item c at there some apart gone = otherwise_by before after one differs
  where
    x : ℕ
    x = item.key.objectid

    len : Context → ℕ
    len context = extent_length context item

    never : is_kept after.chunks c ≡ true → ⊥
    never kept = absurd (cc (kept, gone))

    differs : space_postings before one.tree one.part ≡ space_postings after one.tree one.part → ⊥
    differs same =
        let whole : place_postings (is_data item) x (len before) (home_of before x (len before))
        ≡ place_postings (is_data item) x (len after) (home_of after x (len after)) =
        subst (λ part. space_postings before one.tree part ≡ space_postings after one.tree part) at same in
        let was : home_of before x (len before) ≡ Some (home_in c) = ap (option_map home_in) there in
        let is : home_of after x (len after) ≡ Some (home_in c) =
        same_place (is_data item) x (len before) (len after) (home_in c) (home_of after x (len after))
        (subst (λ o. place_postings (is_data item) x (len before) o
        ≡ place_postings (is_data item) x (len after) (home_of after x (len after))) was whole) in
        let d = made_of (home after.chunks x (len after)) (home_in c) is in
        let new = home_some after.chunks x (len after) d.0 d.1 in
        let old = home_some before.chunks x (len before) c there in
        never (kept_by after.chunks c d.0 apart (holder_some c x (len before) some old.holds) new.among d.2)

-- ---- the sectors of an extent

sector_there : (address n k : ℕ) → k < n → Among (address + k * 4096) (sectors_from address n)
unfolding sectors_from
sector_there address zero k small = absurd (omega (arith, small))
sector_there address (suc n) zero small = inl (none address)
  where
    none : (a : ℕ) → a ≡ a + 0 * 4096
    none a = omega arith
sector_there address (suc n) (suc k) small =
    inr (subst (λ a. Among a (sectors_from (address + 4096) n)) (next address k) (sector_there (address + 4096) n k (omega (arith, small))))
  where
    next : (a m : ℕ) → (a + 4096) + m * 4096 ≡ a + suc m * 4096
    next a m = omega arith

-- an extent with a home posts to each of its sectors
pub posts_sector : (context : Context) (one : Located) (item : ExtentFields) (h : Home) (k : ℕ) → one.part ≡ ExtentPart item
    → home_of context item.key.objectid (extent_length context item) ≡ Some h → k < extent_length context item / 4096
    → Among (to (sector (item.key.objectid + k * 4096)) 0 1) (postings_of context one)
unfolding space_postings
posts_sector context one item h k at is small =
    among_right p (extent_postings one.tree one.part) _
    (among_right p (inode_postings one.tree one.part) _
    (among_right p (dir_postings one.tree one.part) (space_postings context one.tree one.part)
    (subst (λ part. Among p (space_postings context one.tree part)) (sym at)
    (subst (λ o. Among p (place_postings (is_data item) x len o)) (sym is) there))))
  where
    x : ℕ
    x = item.key.objectid

    len : ℕ
    len = extent_length context item

    p : Posting
    p = to (sector (x + k * 4096)) 0 1

    there : Among p (place_postings (is_data item) x len (Some h))
    there =
        inr (among_left p (flat_map (owned_postings (is_data item)) (sectors_of x len)) _
        (flat_among (owned_postings (is_data item)) (sectors_of x len) (x + k * 4096) p (sector_there x (len / 4096) k small) (inl refl)))

-- so that one of its postings goes to a span that has the sector
pub names_span : (context : Context) (items : List Located) (one : Located) (item : ExtentFields) (h : Home) (k : ℕ) (span : Span)
    → Among one items → one.part ≡ ExtentPart item → home_of context item.key.objectid (extent_length context item) ≡ Some h
    → k < extent_length context item / 4096 → has_sector span (item.key.objectid + k * 4096) ≡ true
    → has_named (all_postings context items) span ≡ true
unfolding has_named
names_span context items one item h k span among at is small has =
    let p = to (sector (item.key.objectid + k * 4096)) 0 1 in
    any_among (λ (posting : Posting). is_to_sector posting && has_sector span posting.account.block) (all_postings context items) p
    (flat_among (postings_of context) items one p among (posts_sector context one item h k at is small)) has
