-- The sums of sectors, from an edge to the next: the first edge where they break the rule is the least broken sector.
use Rattle.std.proofs.Common.{◌≡◌, ℕ, zero, suc, ◌+◌, ◌-◌, ◌*◌, ◌≤◌, ◌<◌, ◌^◌, Bool, true, false, not, cond, List, [], ◌∷◌, refl, ap, sym, ◌∙◌, subst, arith}
use Rattle.std.specs.Prelude.{Option, Some, None, IsSome, nat_lt}
use Rattle.std.specs.List.{AllByRecursion}
use Rattle.std.specs.List.Sorted.{IsStrictlySortedBy}
use Rattle.std.specs.Map.{keys_of, lookup}
use Rattle.std.specs.Ordering.{nat_cmp, is_eq}
use Rattle.std.specs.declared.cmp.Ordering.TheVariants.{Less}
use Rattle.std.specs.Cmp.{unsigned_tied}
use Rattle.std.specs.BTreeMap.{is_at, IsOrdered}
use Rattle.std.proofs.Math.Path.{fun_ext}
use Rattle.std.proofs.lemmas.Bool.{eqb-true, eqb-false, eq-eqb}
use Rattle.std.proofs.lemmas.Bool.Decides.{nat_tests}
use Rattle.std.proofs.lemmas.Map.Keys.{sorted_head, sorted_tail}
use Rattle.verdict.specs.Items.{is_multiple}
use Rattle.accounts.specs.Broken.{is_broken}
use Rattle.accounts.specs.Kinds.{sector, sector_keeps}
use Rattle.sector_runs.specs.declared.edge.Edges.{Edges}
use Rattle.sector_runs.specs.declared.kept.Sectors.{Sectors}
use Rattle.sector_runs.specs.Kept.{Entries, below, begins, ends, number_at}
use Rattle.sector_runs.specs.Edges.{sums_of}
use Rattle.sector_runs.specs.Runs.{IsLeastBroken}
use Rattle.verdict.proofs.Numbers.{less_is}

abbrev pub Entry : Type 0
Entry = ℕ × Edges

-- the sums from an edge on, by those before it
abbrev pub behind : (ℕ → ℕ) → Edges → ℕ → ℕ
behind g edges field = (g field + begins field edges) - ends field edges

-- the first edge where the sums break the rule on a sector
abbrev pub sweep : (ℕ → ℕ) → List Entry → Option ℕ
sweep g [] = None
sweep g (e ∷ es) = cond (sector_keeps (behind g e.1)) (sweep (behind g e.1) es) (Some e.0)

-- all of a number below n, by the entries as a list
abbrev pub listed : (Edges → ℕ) → List Entry → ℕ → ℕ
listed number [] n = 0
listed number (e ∷ es) n = cond (nat_lt e.0 n) (number e.1) 0 + listed number es n

-- the sums at an address, by those before all of these entries
abbrev pub sums_behind : (ℕ → ℕ) → List Entry → ℕ → ℕ → ℕ
sums_behind g es address field = (g field + listed (begins field) es (suc address)) - listed (ends field) es (suc address)

-- these sums break the rule on a sector first there
abbrev pub IsFirst : (ℕ → ℕ → ℕ) → Option ℕ → Type 0
IsFirst sums None = (address : ℕ) → sector_keeps (sums address) ≡ true
IsFirst sums (Some least) = (sector_keeps (sums least) ≡ false) × ((address : ℕ) → address < least → sector_keeps (sums address) ≡ true)

-- ---- what is left of a sweep

-- in no sum more runs end than began
pub record IsSwept (g : ℕ → ℕ) (es : List Entry) : Type 0 where
  pub sorted : IsStrictlySortedBy nat_cmp (keys_of es)
  pub begun : (field n : ℕ) → listed (ends field) es n ≤ g field + listed (begins field) es n

-- no sum is above 64 bits for each address before the next edge
abbrev pub HaveRoom : (ℕ → ℕ) → List Entry → Type 0
HaveRoom g es = (field : ℕ) → AllByRecursion (λ k. g field ≤ 2 ^ 64 * k) (keys_of es)

none_listed : (number : Edges → ℕ) (es : List Entry) (k n : ℕ) → AllByRecursion (λ y. nat_cmp k y ≡ Less) (keys_of es) → n ≤ suc k → listed number es n ≡ 0
none_listed number [] k n above small = refl
none_listed number (e ∷ es) k n above small =
    let later : k < e.0 = less_is k e.0 above.0 in
    let rest = none_listed number es k n above.1 small in
    let out : cond (nat_lt e.0 n) (number e.1) 0 ≡ 0 = grind (arith, nat_tests) in
    omega (arith, rest, out)

more_keys : (g h k : ℕ) (ks : List ℕ) → AllByRecursion (λ y. nat_cmp k y ≡ Less) ks → g ≤ 2 ^ 64 * k → h ≤ g + 2 ^ 64 → AllByRecursion (λ y. h ≤ 2 ^ 64 * y) ks
more_keys g h k [] above was more = tt
more_keys g h k (y ∷ ks) above was more =
    let later : k < y = less_is k y above.0 in
    let here : h ≤ 2 ^ 64 * y = omega (arith, later, was, more) in
    (here, more_keys g h k ks above.1 was more)

-- the first entry's ends are no more than began
pub first_begun : (g : ℕ → ℕ) (e : Entry) (es : List Entry) → IsSwept g (e ∷ es) → (field : ℕ) → ends field e.1 ≤ g field + begins field e.1
first_begun g e es swept field =
    let above = sorted_head nat_cmp e.0 (keys_of es) swept.sorted in
    let all = swept.begun field (suc e.0) in
    let b = none_listed (begins field) es e.0 (suc e.0) above (omega arith) in
    let d = none_listed (ends field) es e.0 (suc e.0) above (omega arith) in
    let i : cond (nat_lt e.0 (suc e.0)) (begins field e.1) 0 ≡ begins field e.1 = grind (arith, nat_tests) in
    let o : cond (nat_lt e.0 (suc e.0)) (ends field e.1) 0 ≡ ends field e.1 = grind (arith, nat_tests) in
    omega (arith, all, b, d, i, o)

-- there is room for what begins
pub first_room : (g : ℕ → ℕ) (e : Entry) (es : List Entry) → HaveRoom g (e ∷ es) → e.0 < 2 ^ 64 → (field : ℕ) → g field + 2 ^ 64 ≤ 2 ^ 128
first_room g e es room small field = let most : g field ≤ 2 ^ 64 * e.0 = (room field).0 in omega (arith, most, small)

pub room_more : (g h : ℕ → ℕ) (e : Entry) (es : List Entry) → IsSwept g (e ∷ es) → HaveRoom g (e ∷ es) → ((field : ℕ) → h field ≤ g field + 2 ^ 64) → HaveRoom h es
room_more g h e es swept room more = λ field.
    more_keys (g field) (h field) e.0 (keys_of es) (sorted_head nat_cmp e.0 (keys_of es) swept.sorted) ((room field).0) (more field)

begun_case : (b : Bool) (g x y B E : ℕ) → y ≤ g + x → cond b y 0 + E ≤ g + (cond b x 0 + B) → (b ≡ false → (E ≡ 0)) → E ≤ ((g + x) - y) + B
begun_case true g x y B E first all none = omega (arith, first, all)
begun_case false g x y B E first all none = let z = none refl in omega (arith, z)

pub swept_more : (g h : ℕ → ℕ) (e : Entry) (es : List Entry) → IsSwept g (e ∷ es) → ((field : ℕ) → h field ≡ behind g e.1 field) → IsSwept h es
swept_more g h e es swept is =
    let above = sorted_head nat_cmp e.0 (keys_of es) swept.sorted in
    record {
      sorted = sorted_tail nat_cmp e.0 (keys_of es) swept.sorted;
      begun = λ field n.
          subst (λ x. listed (ends field) es n ≤ x + listed (begins field) es n) (sym (is field))
          (begun_case (nat_lt e.0 n) (g field) (begins field e.1) (ends field e.1) (listed (begins field) es n) (listed (ends field) es n) (first_begun g e es swept field) (swept.begun field n)
          (λ out. let early : n ≤ e.0 = grind (arith, nat_tests) in none_listed (ends field) es e.0 n above (omega (arith, early))));
    }

-- ---- the first broken edge is the least broken sector

-- before an edge the sums are those before it
sums_before : (g : ℕ → ℕ) (e : Entry) (es : List Entry) (address : ℕ) → AllByRecursion (λ y. nat_cmp e.0 y ≡ Less) (keys_of es) → address < e.0 → sums_behind g (e ∷ es) address ≡ g
sums_before g e es address above early = fun_ext (λ field.
    let b = none_listed (begins field) es e.0 (suc address) above (omega (arith, early)) in
    let d = none_listed (ends field) es e.0 (suc address) above (omega (arith, early)) in
    let i : cond (nat_lt e.0 (suc address)) (begins field e.1) 0 ≡ 0 = grind (arith, nat_tests) in
    let o : cond (nat_lt e.0 (suc address)) (ends field e.1) 0 ≡ 0 = grind (arith, nat_tests) in
    omega (arith, b, d, i, o))

-- from an edge on they are those behind it
sums_from : (g : ℕ → ℕ) (e : Entry) (es : List Entry) (address : ℕ) → ((field : ℕ) → ends field e.1 ≤ g field + begins field e.1) → e.0 ≤ address → sums_behind g (e ∷ es) address ≡ sums_behind (behind g e.1) es address
sums_from g e es address begun late = fun_ext (λ field.
    let fit = begun field in
    let i : cond (nat_lt e.0 (suc address)) (begins field e.1) 0 ≡ begins field e.1 = grind (arith, nat_tests) in
    let o : cond (nat_lt e.0 (suc address)) (ends field e.1) 0 ≡ ends field e.1 = grind (arith, nat_tests) in
    omega (arith, fit, i, o))

-- right at the last edge there is nothing behind
sums_at_edge : (g : ℕ → ℕ) (k : ℕ) (es : List Entry) (address : ℕ) → AllByRecursion (λ y. nat_cmp k y ≡ Less) (keys_of es) → address ≤ k → sums_behind g es address ≡ g
sums_at_edge g k es address above early = fun_ext (λ field.
    let b = none_listed (begins field) es k (suc address) above (omega (arith, early)) in
    let d = none_listed (ends field) es k (suc address) above (omega (arith, early)) in
    omega (arith, b, d))

early_or_late : (a k : ℕ) (b : Bool) → nat_lt a k ≡ b → {A : Type 0} → (a < k → A) → (k ≤ a → A) → A
early_or_late a k true is early late = early (grind (arith, nat_tests))
early_or_late a k false is early late = late (grind (arith, nat_tests))

-- an address keeps the rule where it does by the entries behind the first
keeps_later : (g : ℕ → ℕ) (e : Entry) (es : List Entry) (address : ℕ) → IsSwept g (e ∷ es) → sector_keeps g ≡ true → sector_keeps (sums_behind (behind g e.1) es address) ≡ true → sector_keeps (sums_behind g (e ∷ es) address) ≡ true
keeps_later g e es address swept fine later =
    early_or_late address e.0 (nat_lt address e.0) refl
    (λ early. ap sector_keeps (sums_before g e es address (sorted_head nat_cmp e.0 (keys_of es) swept.sorted) early) ∙ fine)
    (λ late. ap sector_keeps (sums_from g e es address (first_begun g e es swept) late) ∙ later)

breaks_later : (g : ℕ → ℕ) (e : Entry) (es : List Entry) (address : ℕ) → IsSwept g (e ∷ es) → sector_keeps (behind g e.1) ≡ true → sector_keeps (sums_behind (behind g e.1) es address) ≡ false → sector_keeps (sums_behind g (e ∷ es) address) ≡ false
breaks_later g e es address swept here later =
    early_or_late address e.0 (nat_lt address e.0) refl
    (λ early. let same = ap sector_keeps (sums_at_edge (behind g e.1) e.0 es address (sorted_head nat_cmp e.0 (keys_of es) swept.sorted) (omega (arith, early))) in absurd (cc (same, here, later)))
    (λ late. ap sector_keeps (sums_from g e es address (first_begun g e es swept) late) ∙ later)

later_first : (g : ℕ → ℕ) (e : Entry) (es : List Entry) (r : Option ℕ) → IsSwept g (e ∷ es) → sector_keeps g ≡ true → sector_keeps (behind g e.1) ≡ true → IsFirst (sums_behind (behind g e.1) es) r → IsFirst (sums_behind g (e ∷ es)) r
later_first g e es None swept fine here rest = λ a. keeps_later g e es a swept fine (rest a)
later_first g e es (Some l) swept fine here rest = (breaks_later g e es l swept here rest.0, λ a less_is. keeps_later g e es a swept fine (rest.1 a less_is))

here_first : (g : ℕ → ℕ) (e : Entry) (es : List Entry) → IsSwept g (e ∷ es) → sector_keeps g ≡ true → sector_keeps (behind g e.1) ≡ false → IsFirst (sums_behind g (e ∷ es)) (Some e.0)
here_first g e es swept fine here =
    let above = sorted_head nat_cmp e.0 (keys_of es) swept.sorted in (
      ap sector_keeps (sums_from g e es e.0 (first_begun g e es swept) (omega arith) ∙ sums_at_edge (behind g e.1) e.0 es e.0 above (omega arith)) ∙ here,
      λ a less_is. ap sector_keeps (sums_before g e es a above less_is) ∙ fine,
    )

either_first : (g : ℕ → ℕ) (e : Entry) (es : List Entry) (b : Bool) → sector_keeps (behind g e.1) ≡ b → IsSwept g (e ∷ es) → sector_keeps g ≡ true
    → (sector_keeps (behind g e.1) ≡ true → IsFirst (sums_behind (behind g e.1) es) (sweep (behind g e.1) es))
    → IsFirst (sums_behind g (e ∷ es)) (cond b (sweep (behind g e.1) es) (Some e.0))
either_first g e es true is swept fine rest = later_first g e es (sweep (behind g e.1) es) swept fine is (rest is)
either_first g e es false is swept fine rest = here_first g e es swept fine is

plus_none : (n : ℕ) → (n + 0) - 0 ≡ n
plus_none n = omega arith

sweep_first : (g : ℕ → ℕ) (es : List Entry) → IsSwept g es → sector_keeps g ≡ true → IsFirst (sums_behind g es) (sweep g es)
sweep_first g [] swept fine = λ a. ap sector_keeps (fun_ext (λ field. plus_none (g field))) ∙ fine
sweep_first g (e ∷ es) swept fine =
    either_first g e es (sector_keeps (behind g e.1)) refl swept fine (λ here. sweep_first (behind g e.1) es (swept_more g (behind g e.1) e es swept (λ _. refl)) here)

-- ---- a sweep ends at an entry

some_more : (b : Bool) (x : Edges) (o : Option Edges) → IsSome o → IsSome (cond b (Some x) o)
some_more true x o some = refl
some_more false x o some = some

tied : (k : ℕ) → is_eq (nat_cmp k k) ≡ true
tied k = unsigned_tied k k ∙ eq-eqb k k refl

has_case : (e : Entry) (es : List Entry) (r : Option ℕ) (l : ℕ) (b : Bool) → cond b r (Some e.0) ≡ Some l → (r ≡ Some l → IsSome (lookup (is_at (nat_cmp l)) es)) → IsSome (cond (is_eq (nat_cmp l e.0)) (Some e.1) (lookup (is_at (nat_cmp l)) es))
has_case e es r l true is rest = some_more (is_eq (nat_cmp l e.0)) e.1 (lookup (is_at (nat_cmp l)) es) (rest is)
has_case e es r l false is rest =
    let same : e.0 ≡ l = cc is in
    subst (λ b. IsSome (cond b (Some e.1) (lookup (is_at (nat_cmp l)) es))) (sym (subst (λ k. is_eq (nat_cmp l k) ≡ true) (sym same) (tied l))) refl

has_entry : (g : ℕ → ℕ) (es : List Entry) (l : ℕ) → sweep g es ≡ Some l → IsSome (lookup (is_at (nat_cmp l)) es)
has_entry g [] l is = absurd (cc is)
has_entry g (e ∷ es) l is = has_case e es (sweep (behind g e.1) es) l (sector_keeps (behind g e.1)) is (has_entry (behind g e.1) es l)

-- ---- the entries as a list count as those by address do

abbrev entry_of : List Entry → Entries
entry_of es k = lookup (is_at (nat_cmp k)) es

unfound : (k : ℕ) (es : List Entry) → AllByRecursion (λ y. nat_cmp k y ≡ Less) (keys_of es) → lookup (is_at (nat_cmp k)) es ≡ None
unfound k [] above = refl
unfound k (e ∷ es) above = ap (λ o. cond (is_eq o) (Some e.1) (lookup (is_at (nat_cmp k)) es)) above.0 ∙ unfound k es above.1

one_more_case : (number : Edges → ℕ) (e : Entry) (es : List Entry) (n : ℕ) (b : Bool) → is_eq (nat_cmp n e.0) ≡ b → AllByRecursion (λ y. nat_cmp e.0 y ≡ Less) (keys_of es)
    → cond (nat_lt e.0 n) (number e.1) 0 + number_at number (cond b (Some e.1) (lookup (is_at (nat_cmp n)) es)) ≡ cond (nat_lt e.0 (suc n)) (number e.1) 0 + number_at number (lookup (is_at (nat_cmp n)) es)
one_more_case number e es n true is above =
    let same : n ≡ e.0 = eqb-true n e.0 (sym (unsigned_tied n e.0) ∙ is) in
    let none : number_at number (lookup (is_at (nat_cmp n)) es) ≡ 0 = ap (number_at number) (unfound n es (subst (λ k. AllByRecursion (λ y. nat_cmp k y ≡ Less) (keys_of es)) (sym same) above)) in
    let out : cond (nat_lt e.0 n) (number e.1) 0 ≡ 0 = grind (arith, nat_tests) in
    let in_ : cond (nat_lt e.0 (suc n)) (number e.1) 0 ≡ number e.1 = grind (arith, nat_tests) in
    omega (arith, none, out, in_)
one_more_case number e es n false is above =
    let apart = eqb-false n e.0 (sym (unsigned_tied n e.0) ∙ is) in
    let same : cond (nat_lt e.0 n) (number e.1) 0 ≡ cond (nat_lt e.0 (suc n)) (number e.1) 0 = grind (arith, nat_tests) in
    omega (arith, same)

one_more : (number : Edges → ℕ) (e : Entry) (es : List Entry) (n : ℕ) → AllByRecursion (λ y. nat_cmp e.0 y ≡ Less) (keys_of es)
    → below number (entry_of (e ∷ es)) n ≡ cond (nat_lt e.0 n) (number e.1) 0 + below number (entry_of es) n
unfolding below
one_more number e es zero above = let out : cond (nat_lt e.0 0) (number e.1) 0 ≡ 0 = grind (arith, nat_tests) in omega (arith, out)
one_more number e es (suc n) above =
    let before = one_more number e es n above in
    let here = one_more_case number e es n (is_eq (nat_cmp n e.0)) refl above in
    omega (arith, before, here)

nothing_below : (number : Edges → ℕ) (n : ℕ) → below number (entry_of []) n ≡ 0
unfolding below
nothing_below number zero = refl
nothing_below number (suc n) = let before = nothing_below number n in omega (arith, before)

below_listed : (number : Edges → ℕ) (es : List Entry) (n : ℕ) → IsStrictlySortedBy nat_cmp (keys_of es) → below number (entry_of es) n ≡ listed number es n
below_listed number [] n sorted = nothing_below number n
below_listed number (e ∷ es) n sorted =
    one_more number e es n (sorted_head nat_cmp e.0 (keys_of es) sorted) ∙ ap (λ m. cond (nat_lt e.0 n) (number e.1) 0 + m) (below_listed number es n (sorted_tail nat_cmp e.0 (keys_of es) sorted))

-- ---- all sectors

abbrev pub zero_sums : ℕ → ℕ
zero_sums _ = 0

pub all_swept : (s : Sectors) → IsOrdered nat_cmp s.edges → IsSwept zero_sums s.edges.entries
all_swept s ordered = record {
  sorted = ordered;
  begun = λ field n.
      let e = below_listed (ends field) s.edges.entries n ordered in
      let b = below_listed (begins field) s.edges.entries n ordered in
      let fit : below (ends field) (entry_of s.edges.entries) n ≤ below (begins field) (entry_of s.edges.entries) n = s.sound.begun field n in
      omega (arith, e, b, fit);
}

no_keys : (ks : List ℕ) → AllByRecursion (λ k. 0 ≤ 2 ^ 64 * k) ks
no_keys [] = tt
no_keys (k ∷ ks) = (omega arith, no_keys ks)

pub all_room : (es : List Entry) → HaveRoom zero_sums es
all_room es = λ field. no_keys (keys_of es)

at_sector : (s : Sectors) (a : ℕ) (b : Bool) → is_multiple a ≡ b → IsOrdered nat_cmp s.edges → sums_of s a ≡ cond b (sums_behind zero_sums s.edges.entries a) zero_sums
unfolding sums_of
at_sector s a true is ordered = fun_ext (λ field.
    let e = below_listed (ends field) s.edges.entries (suc a) ordered in
    let b = below_listed (begins field) s.edges.entries (suc a) ordered in
    ap (λ m. cond m (below (begins field) (entry_of s.edges.entries) (suc a) - below (ends field) (entry_of s.edges.entries) (suc a)) 0) is
    ∙ omega (arith, e, b))
at_sector s a false is ordered = fun_ext (λ field.
    ap (λ m. cond m (below (begins field) (entry_of s.edges.entries) (suc a) - below (ends field) (entry_of s.edges.entries) (suc a)) 0) is)

broken_sector : (a : ℕ) (f : ℕ → ℕ) → is_broken (sector a) f ≡ not (sector_keeps f)
unfolding is_broken
broken_sector a f = refl

keeps_case : (s : Sectors) (a : ℕ) (b : Bool) → is_multiple a ≡ b → IsOrdered nat_cmp s.edges → sector_keeps (sums_behind zero_sums s.edges.entries a) ≡ true → is_broken (sector a) (sums_of s a) ≡ false
keeps_case s a true is ordered keeps = broken_sector a (sums_of s a) ∙ ap (λ f. not (sector_keeps f)) (at_sector s a true is ordered) ∙ ap not keeps
keeps_case s a false is ordered keeps = broken_sector a (sums_of s a) ∙ ap (λ f. not (sector_keeps f)) (at_sector s a false is ordered)

least_case : (s : Sectors) (r : Option ℕ) → sweep zero_sums s.edges.entries ≡ r → IsOrdered nat_cmp s.edges → IsFirst (sums_behind zero_sums s.edges.entries) r → IsLeastBroken (sums_of s) r
least_case s None is ordered first = λ a. keeps_case s a (is_multiple a) refl ordered (first a)
least_case s (Some l) is ordered first = (
  let sector_there : is_multiple l ≡ true = s.sound.at_sectors l (has_entry zero_sums s.edges.entries l is) in
      broken_sector l (sums_of s l) ∙ ap (λ f. not (sector_keeps f)) (at_sector s l true sector_there ordered) ∙ ap not first.0,
  λ a less_is. keeps_case s a (is_multiple a) refl ordered (first.1 a less_is),
)

pub swept_least : (s : Sectors) → IsOrdered nat_cmp s.edges → IsLeastBroken (sums_of s) (sweep zero_sums s.edges.entries)
swept_least s ordered = least_case s (sweep zero_sums s.edges.entries) refl ordered (sweep_first zero_sums s.edges.entries (all_swept s ordered) refl)

-- ---- a step of the sweep

pub sweep_on : (g h : ℕ → ℕ) (e : Entry) (es : List Entry) → h ≡ behind g e.1 → sector_keeps h ≡ true → sweep h es ≡ sweep g (e ∷ es)
sweep_on g h e es is keeps = ap (λ x. sweep x es) is ∙ sym (ap (λ b. cond b (sweep (behind g e.1) es) (Some e.0)) (ap sector_keeps (sym is) ∙ keeps))

pub sweep_here : (g h : ℕ → ℕ) (e : Entry) (es : List Entry) → h ≡ behind g e.1 → sector_keeps h ≡ false → sweep g (e ∷ es) ≡ Some e.0
sweep_here g h e es is breaks = ap (λ b. cond b (sweep (behind g e.1) es) (Some e.0)) (ap sector_keeps (sym is) ∙ breaks)
