-- What the high key of an expectation decides.
use Rattle.std.proofs.Common.{◌≡◌, ℕ, List, [], ◌∷◌, ◌++◌, refl, ap, sym, ◌∙◌}
use Rattle.std.specs.Prelude.{Option, Some, None}
use Rattle.verdict.specs.Rules.{TableRow, first_failing, or_found}
use Rattle.verdict.specs.declared.key.Key.{Key}
use Rattle.verdict.specs.declared.finding.Finding.{Finding}
use Rattle.verdict.proofs.Tables.{first_failing_joined}
use Rattle.node_reader.specs.Faults.{header_rules, count_rules, key_rules, order_rules, high_rule, body_rules, block_fault}
use Rattle.node_reader.specs.HighLaw.{under, rules_before, high_fault, fault_with, HighDecides}
use Rattle.node_reader.specs.declared.expect.Expect.{Expect}

-- five tables, of which the fourth has one row
parted : (a b c : List TableRow) (d : TableRow) (e : List TableRow)
    → first_failing (a ++ (b ++ ((c ++ d ∷ []) ++ e))) ≡ or_found (first_failing (a ++ (b ++ c))) (or_found (first_failing (d ∷ [])) (first_failing e))
parted a b c d e =
    first_failing_joined a (b ++ ((c ++ d ∷ []) ++ e))
    ∙ ap (or_found (first_failing a)) (first_failing_joined b ((c ++ d ∷ []) ++ e))
    ∙ ap (λ x. or_found (first_failing a) (or_found (first_failing b) x)) (first_failing_joined (c ++ d ∷ []) e)
    ∙ ap (λ x. or_found (first_failing a) (or_found (first_failing b) (or_found x (first_failing e)))) (first_failing_joined c (d ∷ []))
    ∙ regrouped (first_failing a) (first_failing b) (first_failing c) (first_failing (d ∷ [])) (first_failing e)
    ∙ sym (ap (λ x. or_found x (or_found (first_failing (d ∷ [])) (first_failing e))) (first_failing_joined a (b ++ c) ∙ ap (or_found (first_failing a)) (first_failing_joined b c)))
  where
    regrouped : (a b c d e : Option Finding) → or_found a (or_found b (or_found (or_found c d) e)) ≡ or_found (or_found a (or_found b c)) (or_found d e)
    regrouped (Some f) b c d e = refl
    regrouped None (Some f) c d e = refl
    regrouped None None (Some f) d e = refl
    regrouped None None None d e = refl

-- the rules of a block by the one on the high key
by_high : (bytes fsid : List ℕ) (e : Expect) → block_fault bytes fsid e ≡ fault_with bytes fsid e (high_fault bytes e)
unfolding block_fault key_rules high_fault
by_high bytes fsid e = parted (header_rules bytes fsid e) (count_rules bytes e) (order_rules bytes e) (high_rule bytes e) (body_rules bytes e)

-- all other rules are the same under another high key
others : (bytes fsid : List ℕ) (e : Expect) (high : Option Key) (parent : ℕ)
    → block_fault bytes fsid (under e high parent) ≡ fault_with bytes fsid e (high_fault bytes (under e high parent))
unfolding header_rules count_rules body_rules
others bytes fsid e high parent = by_high bytes fsid (under e high parent)

-- a block that breaks no rule breaks at most that one
kept : (bytes fsid : List ℕ) (e : Expect) (high : Option Key) (parent : ℕ) → block_fault bytes fsid e ≡ None
    → block_fault bytes fsid (under e high parent) ≡ high_fault bytes (under e high parent)
kept bytes fsid e high parent none =
    others bytes fsid e high parent
    ∙ alone (first_failing (rules_before bytes fsid e)) (high_fault bytes e) (first_failing (body_rules bytes e)) (high_fault bytes (under e high parent)) (sym (by_high bytes fsid e) ∙ none)
  where
    alone : (before old behind new : Option Finding) → or_found before (or_found old behind) ≡ None → or_found before (or_found new behind) ≡ new
    alone (Some f) old behind new is = absurd (cc)
    alone None (Some f) behind new is = absurd (cc)
    alone None None (Some f) new is = absurd (cc)
    alone None None None (Some f) is = refl
    alone None None None None is = refl

pub high_decides : HighDecides
high_decides = record { others = others; kept = kept }
