-- The lines as JSON, row by row. A line is one object with no space between its parts, whose members
-- stand in the order of the bytes of their names.
use Rattle.std.specs.Prelude.{ℕ, ◌≡◌, List, ◌++◌, length, codes, false}
use Rattle.std.specs.Fmt.{decimal}
use Rattle.hex.specs.Hex.{encode_lower}
use Rattle.serde_json.specs.declared.value.Value.{Value}
use Rattle.serde_json.specs.View.{view}
use Rattle.serde_json.specs.Written.{compact_text, has_float}
use Rattle.verdict.specs.declared.finding.Finding.{Finding}
use Rattle.report.specs.declared.line.Line.{Line}
use Rattle.report.specs.declared.line.Line.TheVariants.{Image, Refused, Passed, Rejected, Fetched, End, BadTrace, Past}
use Rattle.report.specs.Lines.{event_word, fault_name, rule_text, line_feed}

-- a finding, whose key is a list of three numbers
unfoldable pub finding_json : Finding → List ℕ
finding_json f =
    codes "{\"block\":" ++ decimal f.block ++ codes ",\"detail\":" ++ decimal f.detail
    ++ codes ",\"key\":[" ++ decimal f.key.objectid
    ++ codes "," ++ decimal f.key.kind ++ codes "," ++ decimal f.key.offset
    ++ codes "],\"rule\":\"" ++ rule_text f.rule ++ codes "\",\"tree\":" ++ decimal f.tree ++ codes "}"

-- the object of a line; the bytes of a fetch stand as two lower-case hexadecimal digits each
unfoldable pub json_object : Line → List ℕ
json_object (Image generation) =
    codes "{\"event\":\"image\",\"generation\":" ++ decimal generation ++ codes ",\"result\":\"accepted\"}"
json_object (Refused finding) =
    codes "{\"event\":\"image\",\"finding\":" ++ finding_json finding ++ codes ",\"result\":\"refused\"}"
json_object (Passed settle number generation blocks hot) =
    codes "{\"blocks\":" ++ decimal blocks ++ codes ",\"event\":\"" ++ event_word settle
    ++ codes "\",\"generation\":" ++ decimal generation ++ codes ",\"hot\":" ++ decimal hot
    ++ codes ",\"number\":" ++ decimal number ++ codes ",\"result\":\"passed\"}"
json_object (Rejected settle number finding) =
    codes "{\"event\":\"" ++ event_word settle ++ codes "\",\"finding\":" ++ finding_json finding
    ++ codes ",\"number\":" ++ decimal number ++ codes ",\"result\":\"rejected\"}"
json_object (Fetched at bytes) =
    codes "{\"at\":" ++ decimal at ++ codes ",\"bytes\":\"" ++ encode_lower bytes
    ++ codes "\",\"event\":\"fetch\",\"len\":" ++ decimal (length bytes) ++ codes "}"
json_object (End passed rejected) =
    codes "{\"event\":\"end\",\"passed\":" ++ decimal passed
    ++ codes ",\"rejected\":" ++ decimal rejected ++ codes "}"
json_object (BadTrace number place) =
    codes "{\"event\":\"trace fault\",\"fault\":\"" ++ fault_name number
    ++ codes "\",\"number\":" ++ decimal number ++ codes ",\"record\":" ++ decimal place ++ codes "}"
json_object (Past place at len end) =
    codes "{\"at\":" ++ decimal at ++ codes ",\"end\":" ++ decimal end
    ++ codes ",\"event\":\"past end\",\"len\":" ++ decimal len ++ codes ",\"record\":" ++ decimal place ++ codes "}"

-- the line: its object and the line feed that ends it
abbrev pub json_line : Line → List ℕ
json_line line = json_object line ++ line_feed

-- a JSON value whose compact text is this one
pub record IsWritten (value : Value) (text : List ℕ) : Type 0 where
  pub text_is : compact_text (view value) ≡ text
  pub no_float : has_float (view value) ≡ false
