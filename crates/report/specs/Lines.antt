-- The lines that Recon prints, row by row. A number stands in decimal without leading zeros.
use Rattle.std.specs.Prelude.{ℕ, ◌≤◌, ◌==◌, Bool, List, [], ◌∷◌, ◌++◌, length, codes, if◌then◌else◌}
use Rattle.std.specs.Fmt.{decimal}
use Rattle.hex.specs.Hex.{encode_lower}
use Rattle.verdict.specs.Letter.{letter_of}
use Rattle.verdict.specs.declared.finding.Finding.{Finding}
use Rattle.verdict.specs.declared.finding.Rule.{Rule}
use Rattle.report.specs.declared.line.Line.{Line}
use Rattle.report.specs.declared.line.Line.TheVariants.{Image, Refused, Passed, Rejected, Fetched, End, BadTrace, Past}

-- each line ends with one line feed
abbrev pub line_feed : List ℕ
line_feed = 10 ∷ []

-- a judged event is a settle or a commit
abbrev pub event_word : Bool → List ℕ
event_word settle = if settle then codes "settle" else codes "commit"

-- The name of the fault of a trace that has this number, from 1 to 7. This is the one table of the names.
abbrev pub fault_name : ℕ → List ℕ
fault_name number =
    if number == 1 then codes "BadHeader"
    else if number == 2 then codes "BadTag"
    else if number == 3 then codes "BadLength"
    else if number == 4 then codes "Truncated"
    else if number == 5 then codes "ReadFault"
    else if number == 6 then codes "NoMemory"
    else codes "TooMany"

-- a rule: the family's letter and the number
abbrev pub rule_text : Rule → List ℕ
rule_text rule = letter_of rule.family ∷ decimal rule.number

-- a finding: its rule, then where it is
abbrev pub finding_text : Finding → List ℕ
finding_text f =
    rule_text f.rule
    ++ codes " tree " ++ decimal f.tree
    ++ codes " block " ++ decimal f.block
    ++ codes " key " ++ decimal f.key.objectid ++ codes " " ++ decimal f.key.kind ++ codes " " ++ decimal f.key.offset
    ++ codes " detail " ++ decimal f.detail

-- the text of a line; the bytes of a fetch stand as two lower-case hexadecimal digits each
unfoldable pub text_line : Line → List ℕ
text_line (Image generation) =
    codes "image accepted generation " ++ decimal generation ++ line_feed
text_line (Refused finding) =
    codes "image refused " ++ finding_text finding ++ line_feed
text_line (Passed settle number generation blocks hot) =
    event_word settle ++ codes " " ++ decimal number ++ codes " passed generation " ++ decimal generation
    ++ codes " blocks " ++ decimal blocks ++ codes " hot " ++ decimal hot ++ line_feed
text_line (Rejected settle number finding) =
    event_word settle ++ codes " " ++ decimal number ++ codes " rejected " ++ finding_text finding ++ line_feed
text_line (Fetched at bytes) =
    codes "fetch " ++ decimal at ++ codes " " ++ decimal (length bytes) ++ codes " " ++ encode_lower bytes ++ line_feed
text_line (End passed rejected) =
    codes "end passed " ++ decimal passed ++ codes " rejected " ++ decimal rejected ++ line_feed
text_line (BadTrace number place) =
    codes "trace fault " ++ decimal number ++ codes " " ++ fault_name number ++ codes " record " ++ decimal place ++ line_feed
text_line (Past place at len end) =
    codes "trace past end record " ++ decimal place ++ codes " at " ++ decimal at
    ++ codes " len " ++ decimal len ++ codes " end " ++ decimal end ++ line_feed

-- a line that can be printed: the number of a trace's fault is from 1 to 7
abbrev pub IsPrintable : Line → Type 0
IsPrintable (BadTrace number place) = (1 ≤ number) × (number ≤ 7)
IsPrintable line = Unit {0}
