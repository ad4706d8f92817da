-- What calls that post leave of a list of postings goes together.
use Rattle.std.proofs.Common.{◌+◌, List, ◌++◌, length, take, ap, sym, ◌∙◌, append_assoc, append-nil, length-append, arith}
use Rattle.std.specs.Prelude.{Ok, Err}
use Rattle.std.proofs.Math.Seq.{take-append-add}
use Rattle.std.proofs.lemmas.List.{take-append-le}
use Rattle.verdict.specs.declared.bytes.NoMemory.{NoMemory}
use Rattle.accounts.specs.declared.postings.Posting.{Posting}
use Rattle.accounts.specs.Posts.{Done, Passes, Posts, StandInPart}

-- a first part of some postings is one of these and more
pub part_of_more : (old new first later : List Posting) → StandInPart old new first → StandInPart old new (first ++ later)
part_of_more old new first later part = record {
  count = part.count;
  fewer = omega (arith, part.fewer, length-append first later);
  front = part.front ∙ ap (λ l. old ++ l) (sym (take-append-le part.count first later (omega (arith, part.fewer))));
}

more : (old mid new : List Posting) (result : Done) (first later : List Posting)
    → Posts {T = Unit {0}} {E = NoMemory} old mid (Ok tt) first → Posts mid new result later → Posts old new result (first ++ later)
more old mid new (Ok u) first later posts rest =
    record { all = rest.all ∙ ap (λ l. l ++ later) posts.all ∙ append_assoc old first later; some = tt }
more old mid new (Err e) first later posts rest =
    record {
      all = tt;
      some = record {
        count = length first + rest.some.count;
        fewer = omega (arith, rest.some.fewer, length-append first later);
        front =
            rest.some.front
            ∙ ap (λ l. l ++ take rest.some.count later) posts.all
            ∙ append_assoc old first (take rest.some.count later)
            ∙ ap (λ l. old ++ l) (sym (take-append-add first later rest.some.count));
      };
    }

pub posts_pass : Passes (λ (old new : List Posting) (result : Done) (postings : List Posting). Posts old new result postings)
posts_pass = record {
  none = λ now. record { all = sym (append-nil now); some = tt };
  more = more;
  cut = λ old new before fault first later posts. record { all = tt; some = part_of_more old new first later posts.some };
  missed = λ now fault first later. record { all = tt; some = record { count = 0; fewer = omega arith; front = sym (append-nil now) } };
}
