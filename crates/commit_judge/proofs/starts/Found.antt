-- The finding of the accounts of an image, by the tables of its index.
use Rattle.std.proofs.Common.{◌≡◌, ℕ, ◌+◌, ◌-◌, ◌*◌, ◌%◌, ◌^◌, ◌<◌, ◌≤◌, ◌==◌, ◌&&◌, ◌||◌, Bool, true, false, cond, List, [], ◌∷◌, refl, ap, sym, ◌∙◌, subst, arith}
use Rattle.std.specs.Prelude.{Option, Some, None, nat_le, nat_lt}
use Rattle.std.specs.List.{All, AllByRecursion, sum_by}
use Rattle.std.proofs.Math.Path.{fun_ext}
use Rattle.std.proofs.lemmas.Grind.{common_steps}
use Rattle.std.proofs.lemmas.List.Elements.{recursion_from_All}
use Rattle.std.proofs.lemmas.List.Sums.{sum_by-cons}
use Rattle.verdict.proofs.Numbers.{not_below}
use Rattle.verdict.specs.declared.finding.Finding.{Finding}
use Rattle.accounts.specs.Broken.{is_broken}
use Rattle.accounts.specs.Context.{Context}
use Rattle.accounts.specs.Kinds.{sector}
use Rattle.accounts.specs.Least.{IsLeastBroken}
use Rattle.accounts.specs.Sums.{total_of}
use Rattle.accounts.specs.Tally.{Sums}
use Rattle.accounts.specs.declared.account.Account.{Account}
use Rattle.accounts.proofs.First.{unposted}
use Rattle.commit_laws.specs.Judged.{IsLeastBad, JudgedLaw}
use Rattle.commit_laws.specs.Sectors.{AreSound}
use Rattle.commit_laws.specs.Sound.{IsWhole}
use Rattle.commit_laws.specs.Steps.{all_posts, spans_of}
use Rattle.commit_laws.proofs.whole_commits.Spans.{same_bad}
use Rattle.records.specs.Part.{Located}
use Rattle.records.specs.Postings.{account_fault}
use Rattle.span_index.specs.Sectors.{IsFirstBad, adds, adds_to, counts, has_sector, is_bad, is_inside, sector_sum, times_of_span}
use Rattle.span_index.specs.Spans.{Table, end_of}
use Rattle.span_index.specs.declared.span.Span.{Span}
use Rattle.commit_judge.specs.Filling.{IsFoundBy, all_sectors}
use Rattle.commit_judge.proofs.judgements.Moves.{spans_whole}

-- ---- behind all sectors

not_behind : (a b c : Bool) → b ≡ false → (a && (b && c)) ≡ false
not_behind true b c is = ap (λ (x : Bool). x && c) is
not_behind false b c is = refl

ends : (first sectors address : ℕ) → first % 4096 ≡ 0 → first + sectors * 4096 < 2 ^ 64 → 2 ^ 64 - 4096 ≤ address → first + sectors * 4096 ≤ address
ends first sectors address begins fits behind = omega (arith, begins, fits, behind)

no_sector : (span : Span) (address : ℕ) → IsWhole span → 2 ^ 64 - 4096 ≤ address → has_sector span address ≡ false
no_sector span address whole behind =
    not_behind (nat_le span.first address) (nat_lt address (end_of span)) (span.first % 4096 == address % 4096)
    (not_below address (end_of span) (ends span.first span.sectors address whole.0 whole.1 behind))

no_adds : (context : Context) (address field : ℕ) (span : Span) → has_sector span address ≡ false → adds context address field span ≡ 0
unfolding adds
no_adds context address field span is = ap (λ (b : Bool). cond (b && (counts context span span.sort && adds_to span.sort field)) 1 0) is

none_adds : (context : Context) (address field : ℕ) (spans : List Span) → AllByRecursion IsWhole spans → 2 ^ 64 - 4096 ≤ address
    → sum_by (adds context address field) spans ≡ 0
none_adds context address field [] whole behind = refl
none_adds context address field (span ∷ spans) whole behind =
    sum_by-cons (adds context address field) span spans
    ∙ (λ i. no_adds context address field span (no_sector span address whole.0 behind) i + none_adds context address field spans whole.1 behind i)

-- no sector is broken there
none_bad : (context : Context) (spans : List Span) (address : ℕ) → All IsWhole spans → 2 ^ 64 - 4096 ≤ address → is_bad context spans address ≡ false
unfolding is_bad sector_sum
none_bad context spans address whole behind =
    ap (is_broken (sector address)) (fun_ext (λ field. none_adds context address field spans (recursion_from_All IsWhole spans whole) behind))
    ∙ unposted (sector address)

-- ---- the least broken sector

from_none : (n : ℕ) → nat_le 0 n ≡ true
from_none n = grind arith

both_true : (a b : Bool) → a ≡ true → b ≡ true → ((a && b) || false) ≡ true
both_true a b first second = (λ i. (first i && second i) || false)

inside : (address : ℕ) → nat_lt address (2 ^ 64 - 4096) ≡ true → is_inside all_sectors address ≡ true
inside address less = both_true (nat_le 0 address) (nat_lt address (2 ^ 64 - 4096)) (from_none address) less

behind_all : (address : ℕ) → nat_lt address (2 ^ 64 - 4096) ≡ false → 2 ^ 64 - 4096 ≤ address
behind_all address is = grind (arith, common_steps)

fine_at : (p q : ℕ → Bool) (address : ℕ) → ((a : ℕ) → p a ≡ q a) → ((a : ℕ) → 2 ^ 64 - 4096 ≤ a → q a ≡ false)
    → (is_inside all_sectors address ≡ true → p address ≡ false) → q address ≡ false
fine_at p q address same behind fine = by (nat_lt address (2 ^ 64 - 4096)) refl
  where
    by : (b : Bool) → nat_lt address (2 ^ 64 - 4096) ≡ b → q address ≡ false
    by true less = sym (same address) ∙ fine (inside address less)
    by false is = behind address (behind_all address is)

-- the first broken one of all is the least
least_bad : (p q : ℕ → Bool) (bad : Option ℕ) → ((a : ℕ) → p a ≡ q a) → ((a : ℕ) → 2 ^ 64 - 4096 ≤ a → q a ≡ false)
    → IsFirstBad p all_sectors bad → IsLeastBad q bad
least_bad p q None same behind is = λ address whole. fine_at p q address same behind (is address whole)
least_bad p q (Some least) same behind is =
    (is.0, sym (same least) ∙ is.2, λ address whole less. fine_at p q address same behind (λ within. is.3 address whole within less))

-- ---- the finding

-- what is found by the tables of sound records is the finding of their accounts
pub found_by : JudgedLaw → (context : Context) (records : List Located) (sums : Sums) (table : Table) (finding : Option Finding)
    → AreSound context.nodesize records
    → ((account : Account) (field : ℕ) → sums account field ≡ total_of (all_posts context records) account field)
    → ((span : Span) → table span ≡ times_of_span (spans_of context.nodesize records) span)
    → IsFoundBy sums table context finding
    → account_fault context records ≡ finding
found_by law context records sums table finding sound sums_are spans_are by =
    let shown = spans_of context.nodesize records in
    law context records by.bad by.least sound
    (least_bad (is_bad context by.spans) (is_bad context shown) by.bad
    (same_bad context by.spans shown (λ span. by.times span ∙ spans_are span))
    (λ address behind. none_bad context shown address (spans_whole context.nodesize records sound) behind) by.bad_is)
    (subst (λ (f : Sums). IsLeastBroken (λ account. is_broken account (f account)) by.least)
    (fun_ext (λ account. fun_ext (λ field. sums_are account field))) by.least_is)
    ∙ sym by.found
