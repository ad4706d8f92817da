-- What is added to a ledger goes together.
use Rattle.std.proofs.Common.{◌≡◌, ℕ, ◌+◌, List, [], ◌++◌, length, length-append, ap, sym, ◌∙◌, arith}
use Rattle.std.proofs.Math.Path.{fun_ext}
use Rattle.std.specs.Prelude.{Ok, Err}
use Rattle.accounts.specs.declared.postings.Posting.{Posting}
use Rattle.accounts.specs.Posts.{Done, Passes}
use Rattle.accounts.specs.Sums.{total_of}
use Rattle.accounts.specs.Tally.{Sums}
use Rattle.accounts.proofs.Kept.{total_joined}
use Rattle.ledger_index.specs.Ledger.{sums_of}
use Rattle.ledger_index.specs.Looks.{counted_times}
use Rattle.ledger_index.specs.LooksLaws.{counted_both, counted_none}
use Rattle.touched_accounts.specs.Adding.{Adds}
use Rattle.touched_accounts.specs.Sums.{with_all}
use Rattle.touched_accounts.specs.declared.adding.Adding.{Adding}

-- ---- one list after another

pub with_none : (sums : Sums) → with_all sums [] ≡ sums
unfolding with_all total_of
with_none sums = fun_ext (λ account. fun_ext (λ n. let same : sums account n + 0 ≡ sums account n = omega arith in same))

added_both : (s x y both : ℕ) → both ≡ x + y → (s + x) + y ≡ s + both
added_both s x y both is = omega arith

pub with_more : (sums : Sums) (ps qs : List Posting) → with_all (with_all sums ps) qs ≡ with_all sums (ps ++ qs)
unfolding with_all
with_more sums ps qs = fun_ext (λ account. fun_ext (λ n.
    added_both (sums account n) (total_of ps account n) (total_of qs account n) (total_of (ps ++ qs) account n) (total_joined ps qs account n)))

-- ---- a ledger

more : {L : Type 0} (old mid new : Adding L) (result : Done) (first later : List Posting)
    → Adds old mid (Ok tt) first → Adds mid new result later → Adds old new result (first ++ later)
more old mid new (Err e) first later adds rest = record { sums = tt; looks = tt; few = λ begun have. rest.few begun (adds.few begun have) }
more old mid new (Ok t) first later adds rest = record {
  sums = rest.sums ∙ ap (λ s. with_all s later) adds.sums ∙ with_more (sums_of old.ledger) first later;
  looks =
      rest.looks
      ∙ ap (counted_times (length later)) adds.looks
      ∙ counted_both (length later) (length first) old.steps.now
      ∙ ap (λ n. counted_times n old.steps.now) (let both = length-append first later in omega (arith, both));
  few = λ begun have. rest.few begun (adds.few begun have);
}

pub adds_pass : {L : Type 0} → Passes (λ (old new : Adding L) (result : Done) (postings : List Posting). Adds old new result postings)
adds_pass {L} = record {
  none = λ now. record { sums = sym (with_none (sums_of now.ledger)); looks = sym (counted_none now.steps.now); few = λ begun have. have };
  more = more;
  cut = λ old new before fault first later adds. record { sums = tt; looks = tt; few = adds.few };
  missed = λ now fault first later. record { sums = tt; looks = tt; few = λ begun have. have };
}
