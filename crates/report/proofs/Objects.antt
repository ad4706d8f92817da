-- The compact text of each line's object.
use Rattle.std.proofs.Common.{◌≡◌, ℕ, ◌≤◌, Bool, false, List, ◌++◌, length, codes, refl, ap, ◌∙◌, append_assoc}
use Rattle.std.specs.Fmt.{decimal}
use Rattle.hex.specs.Hex.{encode_lower}
use Rattle.json.specs.Print.{escape}
use Rattle.serde_json.specs.Data.{Data, number, unsigned, string, array, object, item, no_items, member, no_members}
use Rattle.serde_json.specs.View.{view}
use Rattle.serde_json.specs.Written.{compact_text, has_float}
use Rattle.serde_json.specs.declared.value.Value.{Value}
use Rattle.serde_json.proofs.OnLiterals.{serde_json_on_literals}
use Rattle.verdict.specs.declared.finding.Finding.{Finding}
use Rattle.report.specs.declared.line.Line.TheVariants.{Image, Refused, Passed, Rejected, Fetched, End, BadTrace, Past}
use Rattle.report.specs.Lines.{event_word, fault_name, rule_text}
use Rattle.report.specs.Json.{finding_json, json_object, IsWritten}
use Rattle.report.proofs.Plain.{event_plain, name_plain}

-- a whole number
abbrev pub nat : ℕ → Data
nat n = number (unsigned n)

written_as : (value : Value) (d : Data) (text : List ℕ) → view value ≡ d → compact_text d ≡ text → has_float d ≡ false → IsWritten value text
written_as value d text is says none = record { text_is = ap compact_text is ∙ says; no_float = ap has_float is ∙ none }

finding_by : (block detail objectid kind offset tree : ℕ) (rule : List ℕ) → escape rule ≡ rule
    → compact_text (object (member (codes "block") (nat block) (member (codes "detail") (nat detail) (member (codes "key") (array (item (nat objectid) (item (nat kind) (item (nat offset) no_items)))) (member (codes "rule") (string rule) (member (codes "tree") (nat tree) no_members))))))
    ≡ codes "{\"block\":" ++ decimal block ++ codes ",\"detail\":" ++ decimal detail ++ codes ",\"key\":[" ++ decimal objectid ++ codes "," ++ decimal kind ++ codes "," ++ decimal offset ++ codes "],\"rule\":\"" ++ rule ++ codes "\",\"tree\":" ++ decimal tree ++ codes "}"
unfolding serde_json_on_literals
finding_by block detail objectid kind offset tree rule plain = simp (plain, append_assoc)

image_by : (generation : ℕ)
    → compact_text (object (member (codes "event") (string (codes "image")) (member (codes "generation") (nat generation) (member (codes "result") (string (codes "accepted")) no_members))))
    ≡ codes "{\"event\":\"image\",\"generation\":" ++ decimal generation ++ codes ",\"result\":\"accepted\"}"
unfolding serde_json_on_literals
image_by generation = simp append_assoc

refused_by : (finding : List ℕ) (finding_value : Value) → compact_text (view finding_value) ≡ finding
    → compact_text (object (member (codes "event") (string (codes "image")) (member (codes "finding") (view finding_value) (member (codes "result") (string (codes "refused")) no_members))))
    ≡ codes "{\"event\":\"image\",\"finding\":" ++ finding ++ codes ",\"result\":\"refused\"}"
unfolding serde_json_on_literals
refused_by finding finding_value says = simp (says, append_assoc)

passed_by : (word : List ℕ) (n generation blocks hot : ℕ) → escape word ≡ word
    → compact_text (object (member (codes "blocks") (nat blocks) (member (codes "event") (string word) (member (codes "generation") (nat generation) (member (codes "hot") (nat hot) (member (codes "number") (nat n) (member (codes "result") (string (codes "passed")) no_members)))))))
    ≡ codes "{\"blocks\":" ++ decimal blocks ++ codes ",\"event\":\"" ++ word ++ codes "\",\"generation\":" ++ decimal generation ++ codes ",\"hot\":" ++ decimal hot ++ codes ",\"number\":" ++ decimal n ++ codes ",\"result\":\"passed\"}"
unfolding serde_json_on_literals
passed_by word n generation blocks hot plain = simp (plain, append_assoc)

rejected_by : (word : List ℕ) (n : ℕ) (finding : List ℕ) (finding_value : Value) → escape word ≡ word → compact_text (view finding_value) ≡ finding
    → compact_text (object (member (codes "event") (string word) (member (codes "finding") (view finding_value) (member (codes "number") (nat n) (member (codes "result") (string (codes "rejected")) no_members)))))
    ≡ codes "{\"event\":\"" ++ word ++ codes "\",\"finding\":" ++ finding ++ codes ",\"number\":" ++ decimal n ++ codes ",\"result\":\"rejected\"}"
unfolding serde_json_on_literals
rejected_by word n finding finding_value plain says = simp (plain, says, append_assoc)

fetched_by : (at len : ℕ) (digits : List ℕ) → escape digits ≡ digits
    → compact_text (object (member (codes "at") (nat at) (member (codes "bytes") (string digits) (member (codes "event") (string (codes "fetch")) (member (codes "len") (nat len) no_members)))))
    ≡ codes "{\"at\":" ++ decimal at ++ codes ",\"bytes\":\"" ++ digits ++ codes "\",\"event\":\"fetch\",\"len\":" ++ decimal len ++ codes "}"
unfolding serde_json_on_literals
fetched_by at len digits plain = simp (plain, append_assoc)

end_by : (passed rejected : ℕ)
    → compact_text (object (member (codes "event") (string (codes "end")) (member (codes "passed") (nat passed) (member (codes "rejected") (nat rejected) no_members))))
    ≡ codes "{\"event\":\"end\",\"passed\":" ++ decimal passed ++ codes ",\"rejected\":" ++ decimal rejected ++ codes "}"
unfolding serde_json_on_literals
end_by passed rejected = simp append_assoc

fault_by : (name : List ℕ) (n place : ℕ) → escape name ≡ name
    → compact_text (object (member (codes "event") (string (codes "trace fault")) (member (codes "fault") (string name) (member (codes "number") (nat n) (member (codes "record") (nat place) no_members)))))
    ≡ codes "{\"event\":\"trace fault\",\"fault\":\"" ++ name ++ codes "\",\"number\":" ++ decimal n ++ codes ",\"record\":" ++ decimal place ++ codes "}"
unfolding serde_json_on_literals
fault_by name n place plain = simp (plain, append_assoc)

past_by : (place at len end : ℕ)
    → compact_text (object (member (codes "at") (nat at) (member (codes "end") (nat end) (member (codes "event") (string (codes "past end")) (member (codes "len") (nat len) (member (codes "record") (nat place) no_members))))))
    ≡ codes "{\"at\":" ++ decimal at ++ codes ",\"end\":" ++ decimal end ++ codes ",\"event\":\"past end\",\"len\":" ++ decimal len ++ codes ",\"record\":" ++ decimal place ++ codes "}"
unfolding serde_json_on_literals
past_by place at len end = simp append_assoc

pub finding_written : (value : Value) (f : Finding) (rule : List ℕ) → rule ≡ rule_text f.rule → escape (rule_text f.rule) ≡ rule_text f.rule
    → view value ≡ object (member (codes "block") (nat f.block) (member (codes "detail") (nat f.detail) (member (codes "key") (array (item (nat f.key.objectid) (item (nat f.key.kind) (item (nat f.key.offset) no_items)))) (member (codes "rule") (string rule) (member (codes "tree") (nat f.tree) no_members)))))
    → IsWritten value (finding_json f)
unfolding finding_json
finding_written value f rule same plain is =
    written_as value _ _ (is ∙ ap (λ (r : List ℕ). object (member (codes "block") (nat f.block) (member (codes "detail") (nat f.detail) (member (codes "key") (array (item (nat f.key.objectid) (item (nat f.key.kind) (item (nat f.key.offset) no_items)))) (member (codes "rule") (string r) (member (codes "tree") (nat f.tree) no_members)))))) same) (finding_by f.block f.detail f.key.objectid f.key.kind f.key.offset f.tree (rule_text f.rule) plain) refl

pub image_written : (value : Value) (generation : ℕ)
    → view value ≡ object (member (codes "event") (string (codes "image")) (member (codes "generation") (nat generation) (member (codes "result") (string (codes "accepted")) no_members)))
    → IsWritten value (json_object (Image generation))
unfolding json_object
image_written value generation is = written_as value _ _ is (image_by generation) refl

pub refused_written : (value : Value) (finding : Finding) (finding_value : Value) → IsWritten finding_value (finding_json finding)
    → view value ≡ object (member (codes "event") (string (codes "image")) (member (codes "finding") (view finding_value) (member (codes "result") (string (codes "refused")) no_members)))
    → IsWritten value (json_object (Refused finding))
unfolding json_object
refused_written value finding finding_value inner is =
    written_as value _ _ is (refused_by (finding_json finding) finding_value inner.text_is) (simp inner.no_float)

pub passed_written : (value : Value) (settle : Bool) (n generation blocks hot : ℕ) (word : List ℕ) → word ≡ event_word settle
    → view value ≡ object (member (codes "blocks") (nat blocks) (member (codes "event") (string word) (member (codes "generation") (nat generation) (member (codes "hot") (nat hot) (member (codes "number") (nat n) (member (codes "result") (string (codes "passed")) no_members))))))
    → IsWritten value (json_object (Passed settle n generation blocks hot))
unfolding json_object
passed_written value settle n generation blocks hot word same is =
    written_as value _ _ (is ∙ ap (λ (w : List ℕ). object (member (codes "blocks") (nat blocks) (member (codes "event") (string w) (member (codes "generation") (nat generation) (member (codes "hot") (nat hot) (member (codes "number") (nat n) (member (codes "result") (string (codes "passed")) no_members))))))) same) (passed_by (event_word settle) n generation blocks hot (event_plain settle)) refl

pub rejected_written : (value : Value) (settle : Bool) (n : ℕ) (finding : Finding) (word : List ℕ) (finding_value : Value) → word ≡ event_word settle → IsWritten finding_value (finding_json finding)
    → view value ≡ object (member (codes "event") (string word) (member (codes "finding") (view finding_value) (member (codes "number") (nat n) (member (codes "result") (string (codes "rejected")) no_members))))
    → IsWritten value (json_object (Rejected settle n finding))
unfolding json_object
rejected_written value settle n finding word finding_value same inner is =
    written_as value _ _ (is ∙ ap (λ (w : List ℕ). object (member (codes "event") (string w) (member (codes "finding") (view finding_value) (member (codes "number") (nat n) (member (codes "result") (string (codes "rejected")) no_members))))) same) (rejected_by (event_word settle) n (finding_json finding) finding_value (event_plain settle) inner.text_is) (simp inner.no_float)

pub fetched_written : (value : Value) (at : ℕ) (bytes : List ℕ) (len : ℕ) (digits : List ℕ) → digits ≡ encode_lower bytes → escape (encode_lower bytes) ≡ encode_lower bytes → len ≡ length bytes
    → view value ≡ object (member (codes "at") (nat at) (member (codes "bytes") (string digits) (member (codes "event") (string (codes "fetch")) (member (codes "len") (nat len) no_members))))
    → IsWritten value (json_object (Fetched at bytes))
unfolding json_object
fetched_written value at bytes len digits same plain size is =
    written_as value _ _ (is ∙ ap (λ (w : List ℕ). object (member (codes "at") (nat at) (member (codes "bytes") (string w) (member (codes "event") (string (codes "fetch")) (member (codes "len") (nat len) no_members))))) same ∙ ap (λ (k : ℕ). object (member (codes "at") (nat at) (member (codes "bytes") (string (encode_lower bytes)) (member (codes "event") (string (codes "fetch")) (member (codes "len") (nat k) no_members))))) size) (fetched_by at (length bytes) (encode_lower bytes) plain) refl

pub end_written : (value : Value) (passed rejected : ℕ)
    → view value ≡ object (member (codes "event") (string (codes "end")) (member (codes "passed") (nat passed) (member (codes "rejected") (nat rejected) no_members)))
    → IsWritten value (json_object (End passed rejected))
unfolding json_object
end_written value passed rejected is = written_as value _ _ is (end_by passed rejected) refl

pub fault_written : (value : Value) (n place : ℕ) (name : List ℕ) → name ≡ fault_name n → 1 ≤ n → n ≤ 7
    → view value ≡ object (member (codes "event") (string (codes "trace fault")) (member (codes "fault") (string name) (member (codes "number") (nat n) (member (codes "record") (nat place) no_members))))
    → IsWritten value (json_object (BadTrace n place))
unfolding json_object
fault_written value n place name same low high is =
    written_as value _ _ (is ∙ ap (λ (w : List ℕ). object (member (codes "event") (string (codes "trace fault")) (member (codes "fault") (string w) (member (codes "number") (nat n) (member (codes "record") (nat place) no_members))))) same) (fault_by (fault_name n) n place (name_plain n low high)) refl

pub past_written : (value : Value) (place at len end : ℕ)
    → view value ≡ object (member (codes "at") (nat at) (member (codes "end") (nat end) (member (codes "event") (string (codes "past end")) (member (codes "len") (nat len) (member (codes "record") (nat place) no_members)))))
    → IsWritten value (json_object (Past place at len end))
unfolding json_object
past_written value place at len end is = written_as value _ _ is (past_by place at len end) refl
