-- The item of a tree block of an accepted image has the level of the live block at its address.
use Rattle.std.proofs.Common.{◌≡◌, ℕ, zero, suc, ◌+◌, ◌<◌, ◌==◌, ◌&&◌, ◌||◌, Bool, true, false, not, List, [], ◌∷◌, ◌⊎◌, inl, inr, refl, ap, sym}
use Rattle.std.proofs.Common.{subst, ◌∙◌, arith, if◌then◌else◌}
use Rattle.std.proofs.lemmas.Bool.{and_parts, eq-eqb, eqb-true, leb-true, lt-ltb}
use Rattle.std.proofs.lemmas.Bool.Decides.{nat_tests}
use Rattle.std.proofs.lemmas.List.Elements.{All-contains, All-from_recursion}
use Rattle.std.specs.Prelude.{Option, Some, None, Ok, ◌≤◌, is_some, nat_le, nat_lt, option_map}
use Rattle.std.specs.List.{AllByRecursion, Contains, filter_map}
use Rattle.verdict.proofs.Truth.{true_of_not, implied}
use Rattle.verdict.specs.Rules.{and_then, finding_or}
use Rattle.verdict.specs.declared.finding.Finding.{Finding}
use Rattle.verdict.specs.declared.finding.Verdict.{Verdict}
use Rattle.verdict.specs.declared.finding.Verdict.TheVariants.{Accept}
use Rattle.verdict.specs.declared.key.Key.{Key}
use Rattle.verdict.specs.declared.kinds.TheConstants.{EXTENT_ITEM, METADATA_ITEM}
use Rattle.extent_items.specs.ExtentRow.{ExtentFields}
use Rattle.extent_items.specs.declared.reference.Reference.{Reference}
use Rattle.fs_items.specs.declared.file_extent.FileExtent.{FileExtent}
use Rattle.accounts.specs.Broken.{broken_finding, is_broken}
use Rattle.accounts.specs.Context.{Context}
use Rattle.accounts.specs.Kinds.{extent, extent_form, gives, keeps_at, table}
use Rattle.accounts.specs.Least.{IsLeastBroken, is_broken_by, least_broken}
use Rattle.accounts.specs.OrderLaws.{account_equiv}
use Rattle.accounts.specs.Sums.{is_same, total_of}
use Rattle.accounts.specs.declared.account.Account.{Account}
use Rattle.accounts.specs.declared.postings.Posting.{Posting}
use Rattle.accounts.proofs.First.{least_is_least}
use Rattle.accounts.proofs.Same.{same_account}
use Rattle.live_index.specs.Pairs.{IsLeastFrom, Pairs}
use Rattle.live_index.specs.declared.live.Live.{Live}
use Rattle.records.specs.Contents.{Contents, contents, super_record}
use Rattle.records.specs.Context.{context_of}
use Rattle.records.specs.ExtentPostings.{extent_postings, has_extent, reference_account}
use Rattle.records.specs.FullCheck.{checked_with, full_check, verdict_of}
use Rattle.records.specs.Part.{FitsPlace, Located, Part}
use Rattle.records.specs.Part.Part.{BlockPart, ExtentPart, FileExtentPart}
use Rattle.records.specs.Postings.{account_fault, all_postings, postings_of}
use Rattle.records.specs.Seen.{Seen, accounted, block_record}
use Rattle.records.specs.Seen.Seen.{BlockSeen, ItemSeen, PointerSeen}
use Rattle.records.specs.SpacePostings.{is_data}
use Rattle.tree_laws.specs.LivePairs.{Walked, live_in, live_of, table_of, walked}
use Rattle.tree_laws.specs.MergedLaw.{items}
use Rattle.tree_laws.proofs.Treed.{steps_of}
use Rattle.change_records.specs.Affected.{NamesBlock, NamesIn}
use Rattle.change_records.specs.Refs.{ref_to}
use Rattle.change_records.specs.declared.item_ref.ItemRef.{ItemRef}
use Rattle.commit_laws.specs.Blocks.{BlocksLaw, HasOwnName}
use Rattle.commit_laws.specs.Items.{items_of}
use Rattle.commit_laws.proofs.Elements.{Among}
use Rattle.commit_laws.proofs.accepted.Postings.{IsForm, Refers, Says, Touches, all_say, reference_is}
use Rattle.commit_laws.proofs.accepted.Sums.{Adds, all_among, among_left, at_least, counted, given, posted, two_counted}
use Rattle.commit_laws.proofs.accepted.Items.{IsKept, items_kept, items_stand}
use Rattle.commit_laws.proofs.accepted.Rows.{NoBlock}
use Rattle.accounts.specs.Lent.{to}

-- ---- no account of an accepted image is broken

abbrev told : ℕ → Option Finding → Verdict
told generation fault = verdict_of (and_then (finding_or fault (tt {0})) (λ _. Ok generation))

full_of : (image : List ℕ) (held : Contents) → contents image ≡ Ok held
    → full_check image ≡ told held.sup.generation (account_fault (context_of held) held.records)
unfolding checked_with
full_of image held holds = rw holds refl

pub no_fault : (generation other : ℕ) (fault : Option Finding) → told generation fault ≡ Accept other → fault ≡ None
no_fault generation other None is = refl
no_fault generation other (Some finding) is = absurd (cc)

pub none_least : (o : Option Account) → option_map broken_finding o ≡ None → o ≡ None
none_least None is = refl
none_least (Some account) is = absurd (cc)

pub none_broken : (postings : List Posting) → option_map broken_finding (least_broken postings) ≡ None → (account : Account) → is_broken_by postings account ≡ false
none_broken postings is account =
    (subst (λ (o : Option Account). IsLeastBroken (is_broken_by postings) o) (none_least (least_broken postings) is) (least_is_least postings)) account

-- ---- what rules say of sums

extent_keeps_is : (a b c : ℕ) → not (nat_le a 1 && (gives (a == 1) (b == c && nat_le 1 b) && gives (a == 0) (c == 0))) ≡ false → 0 < a
    → (a ≤ 1) × (0 < c)
extent_keeps_is a b c is some =
    let rest = gives (a == 1) (b == c && nat_le 1 b) && gives (a == 0) (c == 0) in
    let p = and_parts (nat_le a 1) rest (true_of_not (nat_le a 1 && rest) is) in
    let q = and_parts (gives (a == 1) (b == c && nat_le 1 b)) (gives (a == 0) (c == 0)) p.1 in
    let low : a ≤ 1 = leb-true _ _ p.0 in
    let one : a ≡ 1 = omega arith in
    let both = and_parts (b == c) (nat_le 1 b) (implied (a == 1) (b == c && nat_le 1 b) q.0 (eq-eqb a 1 one)) in
    let same : b ≡ c = eqb-true b c both.0 in
    let more : 1 ≤ b = leb-true _ _ both.1 in
    (low, omega (arith, same, more))

balanced : (k : ℕ) (f : ℕ → ℕ) → nat_lt k 3 ≡ true → nat_lt 0 k ≡ true → not (keeps_at k table f) ≡ false → f 0 ≡ f 1
balanced k f low some is = by (k == 1) refl
  where
    two_of : (k : ℕ) → nat_lt k 3 ≡ true → nat_lt 0 k ≡ true → (k == 1) ≡ false → k ≡ 2
    two_of k low some other = grind (arith, nat_tests)

    by : (b : Bool) → (k == 1) ≡ b → f 0 ≡ f 1
    by true at =
        subst (λ n. not (keeps_at n table f) ≡ false → f 0 ≡ f 1) (sym (eqb-true k 1 at)) (λ h. eqb-true (f 0) (f 1) (true_of_not (f 0 == f 1) h)) is
    by false at =
        subst (λ n. not (keeps_at n table f) ≡ false → f 0 ≡ f 1) (sym (two_of k low some at))
        (λ h. eqb-true (f 0) (f 1) (true_of_not (f 0 == f 1) h)) is

-- an extent has one form
one_form : (a b : Account) (part : Part) → IsForm a part → IsForm b part → a ≡ b
one_form a b (ExtentPart item) x y = sym x ∙ y
one_form a b other x y = elim x [ ]

posts_extent : (account : Account) (tree : ℕ) (part : Part) → IsForm account part → Among (to (extent account.block) 0 1) (extent_postings tree part)
unfolding extent_postings
posts_extent account tree (ExtentPart item) is = inl (ap (λ (a : Account). to (extent a.block) 0 1) is)
posts_extent account tree other is = elim is [ ]

posts_block : (tree x m : ℕ) → Among (to (extent_form x METADATA_ITEM m) 1 1) (extent_postings tree (BlockPart x m))
unfolding extent_postings
posts_block tree x m = inr (inl refl)

pub posts_range : (tree : ℕ) (range : FileExtent) → has_extent range ≡ true
    → Among (to (extent_form range.extent EXTENT_ITEM range.extent_length) 1 1) (extent_postings tree (FileExtentPart range))
unfolding extent_postings
posts_range tree range is = rw is (inr (inl refl))

kinds_apart : EXTENT_ITEM ≡ METADATA_ITEM → ⊥
kinds_apart same = let h : 168 ≡ 169 = same in absurd (omega (arith, h))

-- a block at an address
pub record BlockOf (records : List Located) (x : ℕ) : Type 0 where
  pub block : Located
  pub among : Among block records
  pub level : ℕ
  pub is : block.part ≡ BlockPart x level

module _ (context : Context) (records : List Located) (fine : (account : Account) → is_broken_by (all_postings context records) account ≡ false) where
  abbrev give : Located → List Posting
  give = postings_of context

  abbrev all : List Posting
  all = all_postings context records

  -- the record of a posting that is in a total
  record Told (account : Account) (field : ℕ) : Type 0 where
    one : Located
    among : Among one records
    p : Posting
    adds : Adds p account field
    says : Says one.part (postings_of context one) p

  told_of : (account : Account) (field : ℕ) → 0 < total_of all account field → Told account field
  told_of account field some =
      let r = posted all account field some in
      let g = given give records r.p r.among in
      record {
        one = g.one;
        among = g.among;
        p = r.p;
        adds = r.adds;
        says = all_among (Says g.one.part (give g.one)) (give g.one) r.p (all_say context g.one) g.has;
      }

  -- what a record posts is part of the total
  in_own : (one : Located) (part : Part) (p : Posting) → one.part ≡ part → Among p (extent_postings one.tree part) → Among p (give one)
  in_own one part p is has = among_left p (extent_postings one.tree one.part) _ (subst (λ q. Among p (extent_postings one.tree q)) (sym is) has)

  in_total : (one : Located) (p : Posting) → Among one records → Among p (give one) → p.field < 9 → p.amount ≤ total_of all p.account p.field
  in_total one p among has small =
      let own = at_least (give one) p has small in
      let whole = counted give p.account p.field records one among in
      omega (arith, own, whole)

  form_rule : (x kind form : ℕ) → 0 < total_of all (extent_form x kind form) 1 → 0 < total_of all (extent_form x kind form) 0
  unfolding is_broken
  form_rule x kind form some =
      let f = total_of all (extent_form x kind form) in
      let keeps = true_of_not (gives (nat_lt 0 (f 1)) (nat_le 1 (f 0))) (fine (extent_form x kind form)) in
      let more : 1 ≤ f 0 = leb-true _ _ (implied (nat_lt 0 (f 1)) (nat_le 1 (f 0)) keeps (lt-ltb 0 (f 1) some)) in
      more

  extent_rule : (x : ℕ) → 0 < total_of all (extent x) 0 → (total_of all (extent x) 0 ≤ 1) × (0 < total_of all (extent x) 2)
  unfolding is_broken
  extent_rule x some =
      let f = total_of all (extent x) in
      extent_keeps_is (f 0) (f 1) (f 2) (fine (extent x)) some

  reference_rule : (x : ℕ) (reference : Reference) → 0 < total_of all (reference_account x reference) 0
      → 0 < total_of all (reference_account x reference) 1
  unfolding is_broken
  reference_rule x reference some =
      let account = reference_account x reference in
      let known = reference_is x reference in
      let same : total_of all account 0 ≡ total_of all account 1 =
      balanced account.kind (total_of all account) known.kind known.some (fine account) in
      subst (λ n. 0 < n) same some

  -- an item of an extent of a form posts to the extent
  one_posts : (x kind form : ℕ) (one : Located) → IsForm (extent_form x kind form) one.part → 1 ≤ total_of (give one) (extent x) 0
  one_posts x kind form one is =
      at_least (give one) (to (extent x) 0 1)
      (in_own one one.part (to (extent x) 0 1) refl (posts_extent (extent_form x kind form) one.tree one.part is)) (omega arith)

  -- so that two are one
  only_form : (x kind form sort other : ℕ) (a b : Located) → Among a records → Among b records
      → IsForm (extent_form x kind form) a.part → IsForm (extent_form x sort other) b.part → extent_form x kind form ≡ extent_form x sort other
  only_form x kind form sort other a b first second af bf = by (is_same one two) refl
    where
      one : Account
      one = extent_form x kind form

      two : Account
      two = extent_form x sort other

      never : is_same one two ≡ false → a ≡ b → ⊥
      never apart same =
          let both : one ≡ two = one_form one two b.part (subst (λ (r : Located). IsForm one r.part) same af) bf in
          let tie : is_same one two ≡ true = subst (λ z. is_same one z ≡ true) both (account_equiv.refl one) in
          absurd (cc (tie, apart))

      by : (t : Bool) → is_same one two ≡ t → one ≡ two
      by true is = same_account one two is
      by false is =
          let x1 = one_posts x kind form a af in
          let x2 = one_posts x sort other b bf in
          let sum = two_counted give (extent x) 0 records a b first second (never is) in
          let some : 0 < total_of all (extent x) 0 = omega (arith, x1, x2, sum) in
          let low = (extent_rule x some).0 in
          absurd (omega (arith, x1, x2, sum, low))

  -- an item for what posts the form of an extent
  record Formed (x kind form : ℕ) : Type 0 where
    one : Located
    among : Among one records
    is : IsForm (extent_form x kind form) one.part

  formed : (x kind form : ℕ) → 0 < total_of all (extent_form x kind form) 1 → Formed x kind form
  formed x kind form some =
      let t = told_of (extent_form x kind form) 0 (form_rule x kind form some) in
      record {
        one = t.one;
        among = t.among;
        is = subst (λ a. IsForm a t.one.part) t.adds.account_is (t.says.form t.adds.field_is (ap (λ (a : Account). a.kind) t.adds.account_is));
      }

  module _ (x l : ℕ) (item : Located) (among : Among item records) (is : IsForm (extent_form x METADATA_ITEM l) item.part) where
    -- each block there has the level of the item
    pub same_level : (b : BlockOf records x) → b.level ≡ l
    same_level b =
        let p = to (extent_form x METADATA_ITEM b.level) 1 1 in
        let some = in_total b.block p b.among (in_own b.block (BlockPart x b.level) p b.is (posts_block b.block.tree x b.level)) (omega arith) in
        let f = formed x METADATA_ITEM b.level some in
        ap (λ (a : Account). a.key.offset) (only_form x METADATA_ITEM b.level METADATA_ITEM l f.one item f.among among f.is is)

    no_range : (r : Located) (range : FileExtent) → Among r records → r.part ≡ FileExtentPart range → has_extent range ≡ true → range.extent ≡ x → ⊥
    no_range r range there at has here =
        let p = to (extent_form range.extent EXTENT_ITEM range.extent_length) 1 1 in
        let some = in_total r p there (in_own r (FileExtentPart range) p at (posts_range r.tree range has)) (omega arith) in
        let f = formed range.extent EXTENT_ITEM range.extent_length some in
        let there_is : IsForm (extent_form x EXTENT_ITEM range.extent_length) f.one.part =
        subst (λ n. IsForm (extent_form n EXTENT_ITEM range.extent_length) f.one.part) here f.is in
        let same = only_form x EXTENT_ITEM range.extent_length METADATA_ITEM l f.one item f.among among there_is is in
        kinds_apart (ap (λ (a : Account). a.key.kind) same)

    block_of : (r : Located) → Among r records → (part : Part) → r.part ≡ part → Touches x part → BlockOf records x
    block_of r there (BlockPart a m) at touches = record { block = r; among = there; level = m; is = at ∙ ap (λ n. BlockPart n m) touches }
    block_of r there (FileExtentPart range) at touches = elim (no_range r range there at touches.0 touches.1) [ ]
    block_of r there other at touches = elim touches [ ]

    -- and there is one
    pub some_block : BlockOf records x
    some_block =
        let own = one_posts x METADATA_ITEM l item is in
        let whole = counted give (extent x) 0 records item among in
        let some : 0 < total_of all (extent x) 0 = omega (arith, own, whole) in
        let t = told_of (extent x) 2 (extent_rule x some).1 in
        let r : Refers (postings_of context t.one) t.p = t.says.count t.adds.field_is (ap (λ (a : Account). a.kind) t.adds.account_is) in
        let here : r.address ≡ x = ap (λ (a : Account). a.block) (sym r.at ∙ t.adds.account_is) in
        let account = reference_account r.address r.reference in
        let least = in_total t.one (to account 0 t.p.amount) t.among r.among (omega arith) in
        let amount = t.adds.some in
        let more : 0 < total_of all account 0 = omega (arith, least, amount) in
        let u = told_of account 1 (reference_rule r.address r.reference more) in
        let known = reference_is r.address r.reference in
        let touches : Touches u.p.account.block u.one.part =
        u.says.low u.adds.field_is (subst (λ (a : Account). nat_lt a.kind 3 ≡ true) (sym u.adds.account_is) known.kind) in
        let at : u.p.account.block ≡ x = ap (λ (a : Account). a.block) u.adds.account_is ∙ (known.block ∙ here) in
        block_of u.one u.among u.one.part refl (subst (λ n. Touches n u.one.part) at touches)

-- ---- blocks and live pairs

abbrev address_in : Part → ℕ
address_in (BlockPart a m) = a
address_in other = 0

some_if : (b : Bool) (live : Live) (entry : Option Live) → is_some entry ≡ true → is_some (if b then Some live else entry) ≡ true
some_if true live entry is = refl
some_if false live entry is = is

live_there : (n : ℕ) (seen : List Seen) (r : Located) (x m : ℕ) → AllByRecursion (IsKept n) (items seen) → Among r (filter_map accounted seen)
    → r.part ≡ BlockPart x m → is_some (table_of (live_in seen) r.tree x) ≡ true
unfolding live_in
live_there n [] r x m kept has is = elim has [ ]
live_there n (BlockSeen block ∷ seen) r x m kept (inl same) is =
    let tree : block.tree ≡ r.tree = ap (λ (z : Located). z.tree) same in
    let address : block.address ≡ x = ap (λ (z : Located). address_in z.part) same ∙ ap address_in is in
    rw (eq-eqb block.tree r.tree tree, eq-eqb block.address x address) refl
live_there n (BlockSeen block ∷ seen) r x m kept (inr later) is =
    some_if (block.tree == r.tree && block.address == x) _ (table_of (live_in seen) r.tree x) (live_there n seen r x m kept later is)
live_there n (PointerSeen pointer ∷ seen) r x m kept has is = live_there n seen r x m kept has is
live_there n (ItemSeen one ∷ seen) r x m kept (inl same) is =
    let no : NoBlock one.part = kept.0.1.1.1 in
    let never : NoBlock (BlockPart x m) = subst NoBlock (ap (λ (z : Located). z.part) same ∙ is) no in
    elim never [ ]
live_there n (ItemSeen one ∷ seen) r x m kept (inr later) is = live_there n seen r x m kept.1 later is

-- what a table has is the pair of a block
record Entry (seen : List Seen) (tree address : ℕ) (live : Live) : Type 0 where
  tree_is : live.tree ≡ tree
  address_is : live.address ≡ address
  block : Located
  among : Among block (filter_map accounted seen)
  is : block.part ≡ BlockPart live.address live.level

entry_of : (seen : List Seen) (tree address : ℕ) (live : Live) → table_of (live_in seen) tree address ≡ Some live → Entry seen tree address live
unfolding live_in
entry_of [] tree address live is = absurd (cc)
entry_of (PointerSeen pointer ∷ seen) tree address live is =
    let e = entry_of seen tree address live is in
    record { tree_is = e.tree_is; address_is = e.address_is; block = e.block; among = e.among; is = e.is }
entry_of (ItemSeen one ∷ seen) tree address live is =
    let e = entry_of seen tree address live is in
    record { tree_is = e.tree_is; address_is = e.address_is; block = e.block; among = inr e.among; is = e.is }
entry_of (BlockSeen block ∷ seen) tree address live is =
    by (block.tree == tree) (block.address == address) refl refl is (entry_of seen tree address live)
  where
    later : Entry seen tree address live → Entry (BlockSeen block ∷ seen) tree address live
    later e = record { tree_is = e.tree_is; address_is = e.address_is; block = e.block; among = inr e.among; is = e.is }

    by : (a b : Bool) → (block.tree == tree) ≡ a → (block.address == address) ≡ b
        → (if a && b then Some (live_of block seen) else table_of (live_in seen) tree address) ≡ Some live
        → (table_of (live_in seen) tree address ≡ Some live → Entry seen tree address live) → Entry (BlockSeen block ∷ seen) tree address live
    by true true x y is rest =
        let same : live_of block seen ≡ live = cc in
        record {
          tree_is = sym (ap (λ (l : Live). l.tree) same) ∙ eqb-true block.tree tree x;
          address_is = sym (ap (λ (l : Live). l.address) same) ∙ eqb-true block.address address y;
          block = block_record block;
          among = inl refl;
          is = ap (λ (l : Live). BlockPart l.address l.level) same;
        }
    by true false x y is rest = later (rest is)
    by false b x y is rest = later (rest is)

-- the least tree of an address
record First (pairs : Pairs) (x : ℕ) : Type 0 where
  tree : ℕ
  live : Live
  is : pairs tree x ≡ Some live
  none : (u : ℕ) → u < tree → pairs u x ≡ None

first_from : (pairs : Pairs) (x left n : ℕ) → ((u : ℕ) → u < n → pairs u x ≡ None) → is_some (pairs (left + n) x) ≡ true → First pairs x
first_from pairs x zero n none there = by (pairs n x) refl (subst (λ m. is_some (pairs m x) ≡ true) (nothing n) there)
  where
    nothing : (n : ℕ) → 0 + n ≡ n
    nothing n = omega arith

    by : (o : Option Live) → pairs n x ≡ o → is_some o ≡ true → First pairs x
    by None is some = absurd (cc)
    by (Some live) is some = record { tree = n; live = live; is = is; none = none }
first_from pairs x (suc left) n none there =
    by (pairs n x) refl (λ gone. first_from pairs x left (suc n) (λ u less. below u less gone (u == n) refl)
    (subst (λ m. is_some (pairs m x) ≡ true) (swap left n) there))
  where
    swap : (a b : ℕ) → suc a + b ≡ a + suc b
    swap a b = omega arith

    smaller : (u n : ℕ) → u < suc n → (u == n) ≡ false → u < n
    smaller u n less other = grind (arith, nat_tests)

    below : (u : ℕ) → u < suc n → pairs n x ≡ None → (b : Bool) → (u == n) ≡ b → pairs u x ≡ None
    below u less gone true is = subst (λ m. pairs m x ≡ None) (sym (eqb-true u n is)) gone
    below u less gone false is = none u (smaller u n less is)

    by : (o : Option Live) → pairs n x ≡ o → (pairs n x ≡ None → First pairs x) → First pairs x
    by None is rest = rest is
    by (Some live) is rest = record { tree = n; live = live; is = is; none = none }

least_is : (pairs : Pairs) (x : ℕ) (f : First pairs x) → f.live.tree ≡ f.tree → f.live.address ≡ x → IsLeastFrom pairs x 0 (Some f.live)
least_is pairs x f tree address = (
  subst (λ t. pairs t f.live.address ≡ Some f.live) (sym tree) (subst (λ a. pairs f.tree a ≡ Some f.live) (sym address) f.is),
  from f.live.address x f.live.tree address,
  λ a t after before.
      subst (λ b. pairs t b ≡ None) (sym (at_x a x t f.tree after (moved a t before)))
      (f.none t (under a x t f.tree after (moved a t before))),
)
  where
    from : (a x t : ℕ) → a ≡ x → (nat_lt a x || (a == x && nat_lt t 0)) ≡ false
    from a x t is = grind (arith, nat_tests)

    moved : (a t : ℕ) → (nat_lt a f.live.address || (a == f.live.address && nat_lt t f.live.tree)) ≡ true
        → (nat_lt a x || (a == x && nat_lt t f.tree)) ≡ true
    moved a t is = subst (λ b. (nat_lt a b || (a == b && nat_lt t f.tree)) ≡ true) address
        (subst (λ u. (nat_lt a f.live.address || (a == f.live.address && nat_lt t u)) ≡ true) tree is)

    at_x : (a x u t : ℕ) → (nat_lt a x || (a == x && nat_lt u 0)) ≡ false → (nat_lt a x || (a == x && nat_lt u t)) ≡ true → a ≡ x
    at_x a x u t after before = grind (arith, nat_tests)

    under : (a x u t : ℕ) → (nat_lt a x || (a == x && nat_lt u 0)) ≡ false → (nat_lt a x || (a == x && nat_lt u t)) ≡ true → u < t
    under a x u t after before = grind (arith, nat_tests)

items_among : (seen : List Seen) (whole : List Located) → ((y : Located) → Among y (filter_map accounted seen) → Among y whole)
    → AllByRecursion (λ y. Among y whole) (items seen)
items_among [] whole into = tt
items_among (BlockSeen block ∷ seen) whole into = items_among seen whole (λ y has. into y (inr has))
items_among (PointerSeen pointer ∷ seen) whole into = items_among seen whole into
items_among (ItemSeen one ∷ seen) whole into = (into one (inl refl), items_among seen whole (λ y has. into y (inr has)))

-- ---- the name of an item

abbrev OwnIn : Pairs → Located → Part → Type 0
OwnIn pairs one part =
    NamesIn pairs one part (ref_to one.tree one.key) × ((at : ItemRef) → NamesIn pairs one part at → at ≡ ref_to one.tree one.key)

module _ (image : List ℕ) (generation : ℕ) (whole : Walked) (pairs : Pairs) (one : Located) (accepted : full_check image ≡ Accept generation)
    (is : walked image ≡ Ok whole) (pairs_are : (tree address : ℕ) → pairs tree address ≡ table_of (live_in whole.seen) tree address)
    (has : Contains (items_of whole) one) where
  abbrev seen : List Located
  seen = filter_map accounted whole.seen

  abbrev records : List Located
  records = super_record whole.sup ∷ seen

  abbrev held : Contents
  held = record { sup = whole.sup; chunks = whole.chunks; roots = (steps_of image whole is).roots; records = records }

  holds : contents image ≡ Ok held
  unfolding contents
  holds = let s = steps_of image whole is in rw (s.sup_is, s.arrays, s.chunks_are, s.items, s.records) refl

  fine : (account : Account) → is_broken_by (all_postings (context_of held) records) account ≡ false
  fine =
      none_broken (all_postings (context_of held) records)
      (no_fault whole.sup.generation generation (account_fault (context_of held) records) (sym (full_of image held holds) ∙ accepted))

  place : FitsPlace one.tree one.key one.part
  place = All-contains (λ (y : Located). FitsPlace y.tree y.key y.part) (items_of whole) one (items_stand image whole is).places has

  among : Among one records
  among =
      All-contains (λ y. Among y records) (items_of whole) one
      (All-from_recursion (λ y. Among y records) (items_of whole) (items_among whole.seen records (λ y there. inr there))) has

  module _ (item : ExtentFields) (at : one.part ≡ ExtentPart item) (no_data : is_data item ≡ false) where
    fits : FitsPlace one.tree one.key (ExtentPart item)
    fits = subst (FitsPlace one.tree one.key) at place

    kind_is : item.key.kind ≡ METADATA_ITEM
    kind_is = by fits.2
      where
        by : (one.key.kind ≡ EXTENT_ITEM) ⊎ (one.key.kind ≡ METADATA_ITEM) → item.key.kind ≡ METADATA_ITEM
        by (inl other) =
            let of_data : is_data item ≡ true = eq-eqb item.key.kind EXTENT_ITEM (ap (λ (k : Key). k.kind) fits.1 ∙ other) in
            absurd (cc (of_data, no_data))
        by (inr same) = ap (λ (k : Key). k.kind) fits.1 ∙ same

    abbrev x : ℕ
    x = item.key.objectid

    abbrev l : ℕ
    l = item.key.offset

    form : IsForm (extent_form x METADATA_ITEM l) one.part
    form = subst (IsForm (extent_form x METADATA_ITEM l)) (sym at) (ap (λ k. extent_form x k l) kind_is)

    own_ref : (level : ℕ) → level ≡ l → ref_to 2 (record { objectid = x; kind = METADATA_ITEM; offset = level }) ≡ ref_to one.tree one.key
    own_ref level same =
        ap (λ n. ref_to 2 (record { objectid = x; kind = METADATA_ITEM; offset = n })) same
        ∙ (ap (λ k. ref_to 2 (record { objectid = x; kind = k; offset = l })) (sym kind_is)
        ∙ (ap (λ t. ref_to t item.key) (sym fits.0) ∙ ap (λ k. ref_to one.tree k) fits.1))

    -- a live pair at the address has the level
    level_is : (tree : ℕ) (live : Live) → pairs tree x ≡ Some live → (live.tree ≡ tree) × ((live.address ≡ x) × (live.level ≡ l))
    level_is tree live there =
        let e = entry_of whole.seen tree x live (sym (pairs_are tree x) ∙ there) in
        let block : BlockOf records x = record {
          block = e.block;
          among = inr e.among;
          level = live.level;
          is = e.is ∙ ap (λ a. BlockPart a live.level) e.address_is;
        } in
        (e.tree_is, (e.address_is, same_level (context_of held) records fine x l one among form block))

    first : First pairs x
    first = by (some_block (context_of held) records fine x l one among form)
      where
        at_tree : (b : BlockOf records x) → Among b.block records → is_some (pairs b.block.tree x) ≡ true
        at_tree b (inl same) =
            let never : super_record whole.sup ≡ b.block = same in
            elim (no_super (ap (λ (z : Located). z.part) same ∙ b.is)) [ ]
          where
            no_super : (super_record whole.sup).part ≡ BlockPart x b.level → ⊥
            no_super same = cc
        at_tree b (inr there) =
            ap is_some (pairs_are b.block.tree x)
            ∙ live_there whole.sup.nodesize whole.seen b.block x b.level (items_kept image whole is) there b.is

        add_none : (n : ℕ) → n ≡ n + 0
        add_none n = omega arith

        by : BlockOf records x → First pairs x
        by b =
            first_from pairs x b.block.tree 0 (λ u less. absurd (omega arith))
            (subst (λ t. is_some (pairs t x) ≡ true) (add_none b.block.tree) (at_tree b b.among))

    block_named : NamesBlock pairs x (ref_to one.tree one.key)
    block_named =
        let known = level_is first.tree first.live first.is in
        (first.live, least_is pairs x first known.0 known.1.0, known.1.0, sym (own_ref first.live.level known.1.1))

    named_so : (name : ItemRef) → NamesBlock pairs x name → name ≡ ref_to one.tree one.key
    named_so name named =
        let live = named.0 in
        let there : pairs live.tree x ≡ Some live = subst (λ a. pairs live.tree a ≡ Some live) named.2 named.1.0 in
        named.3 ∙ own_ref live.level (level_is live.tree live there).1.1

  named_by : (part : Part) → one.part ≡ part → OwnIn pairs one part
  named_by (ExtentPart item) at = by (is_data item) refl
    where
      by : (b : Bool) → is_data item ≡ b → OwnIn pairs one (ExtentPart item)
      by true of_data = ((λ d. refl, λ d. absurd (cc (d, of_data))), λ name n. n.0 of_data)
      by false no_data =
          ((λ d. absurd (cc (d, no_data)), λ d. block_named item at no_data), λ name n. named_so item at no_data name (n.1 no_data))
  named_by other at = (refl, λ name n. n)

  pub own_name : HasOwnName pairs one
  own_name = let n = named_by one.part refl in record { own = n.0; one_name = n.1 }

pub own_names : BlocksLaw
own_names image generation whole pairs one accepted is pairs_are has = own_name image generation whole pairs one accepted is pairs_are has
