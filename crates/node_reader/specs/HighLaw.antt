-- What the high key of an expectation decides: one rule alone.
use Rattle.std.specs.Prelude.{ℕ, ◌≡◌, List, [], ◌∷◌, ◌++◌, Option, None}
use Rattle.verdict.specs.Rules.{TableRow, first_failing, or_found}
use Rattle.verdict.specs.declared.key.Key.{Key}
use Rattle.verdict.specs.declared.finding.Finding.{Finding}
use Rattle.node_reader.specs.Faults.{header_rules, count_rules, order_rules, high_rule, body_rules, block_fault}
use Rattle.node_reader.specs.declared.expect.Expect.{Expect}

-- the same block, expected under another high key and below another node
abbrev pub under : Expect → Option Key → ℕ → Expect
under e high parent = record e { high = high; parent = parent }

-- the rules before the one on the high key
abbrev pub rules_before : List ℕ → List ℕ → Expect → List TableRow
rules_before bytes fsid e = header_rules bytes fsid e ++ (count_rules bytes e ++ order_rules bytes e)

-- the finding of the rule on the high key, N12, by the last key and that bound
unfoldable pub high_fault : List ℕ → Expect → Option Finding
high_fault bytes e = first_failing (high_rule bytes e ∷ [])

-- the first finding of the rules, where this is that of the rule on the high key
abbrev pub fault_with : List ℕ → List ℕ → Expect → Option Finding → Option Finding
fault_with bytes fsid e high =
    or_found (first_failing (rules_before bytes fsid e)) (or_found high (first_failing (body_rules bytes e)))

-- Under another high key and below another node the rules find the same, but for the one on the high key. So a block that breaks no rule
-- breaks at most that one there.
pub record HighDecides : Type 0 where
  pub others : (bytes fsid : List ℕ) (e : Expect) (high : Option Key) (parent : ℕ)
      → block_fault bytes fsid (under e high parent) ≡ fault_with bytes fsid e (high_fault bytes (under e high parent))
  pub kept : (bytes fsid : List ℕ) (e : Expect) (high : Option Key) (parent : ℕ) → block_fault bytes fsid e ≡ None
      → block_fault bytes fsid (under e high parent) ≡ high_fault bytes (under e high parent)
