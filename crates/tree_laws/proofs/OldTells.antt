-- Whether a pair is shared by two images tells which blocks of each tree are shared.
use Rattle.std.proofs.Common.{◌≡◌, ℕ, ◌==◌, Bool, true, false, not, ◌&&◌, ◌||◌, List, [], ◌∷◌, ◌++◌, ◌⊎◌, inl, inr, refl, ap, sym, subst, ◌∙◌, arith}
use Rattle.std.specs.Prelude.{Ok, is_some, map}
use Rattle.std.specs.List.{AllByRecursion, list_any}
use Rattle.std.specs.Result.{IsOk}
use Rattle.std.proofs.lemmas.Bool.{eqb-true}
use Rattle.std.proofs.lemmas.Bool.Decides.{nat_tests}
use Rattle.std.proofs.lemmas.List.Folds.{list_any-append}
use Rattle.live_index.proofs.PlaceLaws.{same_name}
use Rattle.verdict.proofs.Truth.{and_parts}
use Rattle.verdict.specs.OnDisk.{key_same}
use Rattle.super_reader.specs.declared.Super.{Super}
use Rattle.live_index.specs.declared.live.Live.{Live}
use Rattle.node_reader.specs.declared.expect.Expect.{Expect}
use Rattle.records.specs.Seen.{Seen}
use Rattle.records.specs.Seen.Seen.{BlockSeen, ItemSeen, PointerSeen}
use Rattle.records.specs.Walk.{walk_of}
use Rattle.records.specs.WalkLaw.{visited}
use Rattle.tree_laws.specs.Keeping.{Comes, OneOf, live_at}
use Rattle.tree_laws.specs.LivePairs.{Walked, live_in, live_of}
use Rattle.tree_laws.specs.OldSide.{GoneLaw, TellsLaw, TellsShared}
use Rattle.tree_laws.specs.Shared.{are_alike, are_read_alike, at_or_below, is_shared_by, stands_untouched}
use Rattle.tree_laws.specs.TableLaw.{AreApart, Tree, is_other}
use Rattle.tree_laws.proofs.Forest.{OfOthers, all_lives, lives_all, lives_of, of_other, others_after, others_all, then_ok, walks}

-- two live pairs have the same in what decides whether they are alike to others
pub record HasSame (a b : Live) : Type 0 where
  pub tree : a.tree ≡ b.tree
  pub address : a.address ≡ b.address
  pub level : a.level ≡ b.level
  pub generation : a.generation ≡ b.generation
  pub first : a.first ≡ b.first

pub has_same : (a b : Live) → are_alike a b ≡ true → HasSame a b
has_same a b alike =
    let parts = and_parts (a.tree == b.tree && a.address == b.address) (a.level == b.level && (a.generation == b.generation && key_same a.first b.first)) alike in
    let place = and_parts (a.tree == b.tree) (a.address == b.address) parts.0 in
    let more = and_parts (a.level == b.level) (a.generation == b.generation && key_same a.first b.first) parts.1 in
    let last = and_parts (a.generation == b.generation) (key_same a.first b.first) more.1 in
    record {
      tree = eqb-true a.tree b.tree place.0;
      address = eqb-true a.address b.address place.1;
      level = eqb-true a.level b.level more.0;
      generation = eqb-true a.generation b.generation last.0;
      first = same_name a.first b.first last.1;
    }

alike_to : (a b x : Live) → HasSame a b → are_alike x a ≡ are_alike x b
alike_to a b x same = rw (same.tree, same.address, same.level, same.generation, same.first) refl

alike_from : (a b x : Live) → HasSame a b → are_alike a x ≡ are_alike b x
alike_from a b x same = rw (same.tree, same.address, same.level, same.generation, same.first) refl

any_alike : (a b : Live) (lives : List Live) → HasSame a b → list_any (are_alike a) lives ≡ list_any (are_alike b) lives
any_alike a b [] same = refl
any_alike a b (x ∷ lives) same = ap (λ t. t || list_any (are_alike a) lives) (alike_from a b x same) ∙ ap (λ t. are_alike b x || t) (any_alike a b lives same)

untouched_alike : (touched : ℕ → Bool) (a b : Live) (seen : List Seen) → HasSame a b → stands_untouched touched seen a ≡ stands_untouched touched seen b
unfolding stands_untouched
untouched_alike touched a b [] same = refl
untouched_alike touched a b (BlockSeen block ∷ behind) same =
    ap (λ t. (t && not (at_or_below touched block behind)) || stands_untouched touched behind a) (alike_to a b (live_of block behind) same)
    ∙ ap (λ t. (are_alike (live_of block behind) b && not (at_or_below touched block behind)) || t) (untouched_alike touched a b behind same)
untouched_alike touched a b (PointerSeen one ∷ behind) same = untouched_alike touched a b behind same
untouched_alike touched a b (ItemSeen one ∷ behind) same = untouched_alike touched a b behind same

-- alike pairs are shared alike
pub shared_alike : (stays touched : ℕ → Bool) (old new : Walked) (a b : Live) → are_alike a b ≡ true
    → is_shared_by stays touched old new a ≡ is_shared_by stays touched old new b
unfolding is_shared_by
shared_alike stays touched old new a b alike =
    let same = has_same a b alike in
    ap (λ address. are_read_alike old.sup new.sup && (stays address && (stands_untouched touched old.seen a && list_any (are_alike a) (live_in new.seen)))) same.address
    ∙ (ap (λ t. are_read_alike old.sup new.sup && (stays b.address && (t && list_any (are_alike a) (live_in new.seen)))) (untouched_alike touched a b old.seen same)
    ∙ ap (λ t. are_read_alike old.sup new.sup && (stays b.address && (stands_untouched touched old.seen b && t))) (any_alike a b (live_in new.seen) same))

-- a shared pair is alike to one of the new image
shared_any : (stays touched : ℕ → Bool) (old new : Walked) (live : Live) → is_shared_by stays touched old new live ≡ true → list_any (are_alike live) (live_in new.seen) ≡ true
unfolding is_shared_by
shared_any stays touched old new live is =
    let place = stays live.address in
    let any = list_any (are_alike live) (live_in new.seen) in
    let first = (and_parts (are_read_alike old.sup new.sup) (place && (stands_untouched touched old.seen live && any)) is).1 in
    (and_parts (stands_untouched touched old.seen live) any (and_parts place (stands_untouched touched old.seen live && any) first).1).1

-- a pair is alike to none of other trees
none_alike : (live : Live) (lives : List Live) → OfOthers live.tree lives → list_any (are_alike live) lives ≡ false
none_alike live [] others = refl
none_alike live (x ∷ lives) others = rw (turned x.tree live.tree others.0) (none_alike live lives others.1)
  where
    turned : (m n : ℕ) → (m == n) ≡ false → (n == m) ≡ false
    turned m n is = grind (arith, nat_tests)

any_one : (test : Live → Bool) (f : Expect → Live) (es : List Expect) → list_any test (map f es) ≡ true → OneOf (λ v. test (f v) ≡ true) es
any_one test f [] is = absurd (cc)
any_one test f (e ∷ es) is = by (test (f e)) refl is (any_one test f es)
  where
    by : (b : Bool) → test (f e) ≡ b → (b || list_any test (map f es)) ≡ true → (list_any test (map f es) ≡ true → OneOf (λ v. test (f v) ≡ true) es)
        → (test (f e) ≡ true) ⊎ OneOf (λ v. test (f v) ≡ true) es
    by true here is later = inl here
    by false here is later = inr (later is)

or_first : (a b : Bool) → b ≡ false → (a || b) ≡ true → a ≡ true
or_first true b none is = refl
or_first false b none is = absurd (cc)

or_later : (a b : Bool) → a ≡ false → (a || b) ≡ true → b ≡ true
or_later true b none is = absurd (cc)
or_later false b none is = is

-- a pair that is alike to one of several trees is alike to one of its own
any_of_tree : (sup : Super) (live : Live) (trees : List Tree) (records : List Seen) → AreApart trees → walks sup trees ≡ Ok records → list_any (are_alike live) (all_lives sup trees) ≡ true
    → AllByRecursion (λ t. live.tree ≡ t.1.tree → list_any (are_alike live) (lives_of sup t) ≡ true) trees
any_of_tree sup live [] records apart is any = tt
any_of_tree sup live (tree ∷ trees) records apart is any =
    (first, later trees apart.0 (λ more. any_of_tree sup live trees split.1 apart.1 split.3 more))
  where
    split : (a b : List Seen) × (walk_of sup tree.0 tree.1 ≡ Ok a) × (walks sup trees ≡ Ok b) × (records ≡ a ++ b)
    split = then_ok (walk_of sup tree.0 tree.1) (walks sup trees) records is

    both : (list_any (are_alike live) (lives_of sup tree) || list_any (are_alike live) (all_lives sup trees)) ≡ true
    both = sym (list_any-append (are_alike live) (lives_of sup tree) (all_lives sup trees)) ∙ any

    first : live.tree ≡ tree.1.tree → list_any (are_alike live) (lives_of sup tree) ≡ true
    first same =
        or_first (list_any (are_alike live) (lives_of sup tree)) (list_any (are_alike live) (all_lives sup trees))
        (none_alike live (all_lives sup trees) (subst (λ t. OfOthers t (all_lives sup trees)) (sym same) (others_all sup trees split.1 tree.1.tree split.3 (others_after sup tree trees apart.0)))) both

    fine : IsOk (walk_of sup tree.0 tree.1)
    fine = rw split.2 refl

    apart_is : (m n : ℕ) → not (m == n) ≡ true → (m == n) ≡ false
    apart_is m n is = grind (arith, nat_tests)

    later : (some : List Tree) → AllByRecursion (λ other. is_other tree other ≡ true) some
        → (list_any (are_alike live) (all_lives sup trees) ≡ true → AllByRecursion (λ t. live.tree ≡ t.1.tree → list_any (are_alike live) (lives_of sup t) ≡ true) some)
        → AllByRecursion (λ t. live.tree ≡ t.1.tree → list_any (are_alike live) (lives_of sup t) ≡ true) some
    later [] others rest = tt
    later (t ∷ some) others rest = (
      λ same.
          let other : OfOthers t.1.tree (lives_of sup tree) = of_other sup tree t.1.tree fine (apart_is tree.1.tree t.1.tree others.0) in
          let none : list_any (are_alike live) (lives_of sup tree) ≡ false = none_alike live (lives_of sup tree) (subst (λ n. OfOthers n (lives_of sup tree)) (sym same) other) in
          (rest (or_later (list_any (are_alike live) (lives_of sup tree)) (list_any (are_alike live) (all_lives sup trees)) none both)).0 same,
      later some others.1 (λ more. (rest more).1),
    )

-- what follows of each of several follows of each
all_then : (P : Live → Tree → Type 0) (trees : List Tree) → ((live : Live) → AllByRecursion (P live) trees) → AllByRecursion (λ t. (live : Live) → P live t) trees
all_then P [] all = tt
all_then P (t ∷ trees) all = ((λ live. (all live).0), all_then P trees (λ live. (all live).1))

all_map : (P Q : Tree → Type 0) (trees : List Tree) → ((t : Tree) → P t → Q t) → AllByRecursion P trees → AllByRecursion Q trees
all_map P Q [] f all = tt
all_map P Q (t ∷ trees) f all = (f t all.0, all_map P Q trees f all.1)

pub tells_shared : TellsLaw
tells_shared stays touched old new kept sup trees apart walks_are =
    let shared = is_shared_by stays touched old new in
    let P = λ (live : Live) (t : Tree). shared live ≡ true → live.tree ≡ t.1.tree → list_any (are_alike live) (lives_of sup t) ≡ true in
    let lives : live_in new.seen ≡ all_lives sup trees = lives_all sup trees new.seen apart walks_are in
    let each : AllByRecursion (λ t. (live : Live) → P live t) trees = all_then P trees
    (λ live. spread live trees (λ is. any_of_tree sup live trees new.seen apart walks_are (subst (λ ls. list_any (are_alike live) ls ≡ true) lives (shared_any stays touched old new live is)))) in
    all_map (λ t. (live : Live) → P live t) (λ t. Comes (λ v. is_some (kept v) ≡ shared (live_at sup t.0 v)) sup t.0 t.1 → TellsShared shared kept sup t.0 t.1) trees
    (λ t all comes. record {
      kept_is = comes;
      alike = shared_alike stays touched old new;
      both = λ live of_tree is. any_one (are_alike live) (live_at sup t.0) (visited sup t.0 t.1) (all live is of_tree);
    }) each
  where
    spread : (live : Live) (some : List Tree) → (is_shared_by stays touched old new live ≡ true → AllByRecursion (λ t. live.tree ≡ t.1.tree → list_any (are_alike live) (lives_of sup t) ≡ true) some)
        → AllByRecursion (λ t. is_shared_by stays touched old new live ≡ true → live.tree ≡ t.1.tree → list_any (are_alike live) (lives_of sup t) ≡ true) some
    spread live [] all = tt
    spread live (t ∷ some) all = ((λ is. (all is).0), spread live some (λ is. (all is).1))

pub gone : GoneLaw
unfolding is_shared_by
gone stays touched old new sup trees live apart walks_are none =
    let others : OfOthers live.tree (all_lives sup trees) = others_all sup trees new.seen live.tree walks_are none in
    let any : list_any (are_alike live) (live_in new.seen) ≡ false =
    ap (list_any (are_alike live)) (lives_all sup trees new.seen apart walks_are) ∙ none_alike live (all_lives sup trees) others in
    last_fails (are_read_alike old.sup new.sup) (stays live.address) (stands_untouched touched old.seen live)
    (list_any (are_alike live) (live_in new.seen)) any
  where
    last_fails : (a b c d : Bool) → d ≡ false → (a && (b && (c && d))) ≡ false
    last_fails true true true d is = is
    last_fails true true false d is = refl
    last_fails true false c d is = refl
    last_fails false b c d is = refl
