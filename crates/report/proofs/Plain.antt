-- Text that stands in a JSON string as it is.
use Rattle.std.proofs.Common.{◌≡◌, ℕ, zero, suc, ◌/◌, ◌%◌, ◌<◌, ◌≤◌, ◌^◌, Bool, true, false, List, [], ◌∷◌, length, get_or, slice_index, Result, Ok, Err, IfOk, refl, arith}
use Rattle.std.proofs.lemmas.Bool.Decides.{nat_tests}
use Rattle.std.proofs.lemmas.Fmt.{decimal_is_IsNumeral}
use Rattle.std.proofs.lemmas.Str.Parse.{digit_at}
use Rattle.std.specs.Fmt.{decimal}
use Rattle.hex.specs.Hex.{encode_with, encode_lower, lower_digits}
use Rattle.json.specs.Print.{escape, escape_byte}
use Rattle.verdict.specs.declared.finding.Rule.{Rule}
use Rattle.verdict.specs.declared.finding.Family.{Family}
use Rattle.verdict.specs.declared.finding.Family.TheVariants.{S, U, N, I, M, X, A, D, F, L}
use Rattle.verdict.specs.Letter.{letter_of}
use Rattle.report.specs.Lines.{event_word, fault_name, rule_text}

plain_byte : (x : ℕ) → 35 ≤ x → x < 92 → escape_byte x ≡ x ∷ []
unfolding escape_byte
plain_byte x low high = grind (arith, nat_tests)

more : (x : ℕ) (xs : List ℕ) → escape_byte x ≡ x ∷ [] → escape xs ≡ xs → escape (x ∷ xs) ≡ x ∷ xs
more x xs first rest = cc

digits_plain : (ds : List ℕ) → ((i : ℕ) → i < length ds → (48 ≤ get_or ds i 0) × (get_or ds i 0 ≤ 57)) → escape ds ≡ ds
digits_plain [] h = refl
digits_plain (d ∷ ds) h =
    let first = h 0 (omega arith) in
    more d ds (plain_byte d (omega arith) (omega arith)) (digits_plain ds (λ i l. h (suc i) (omega arith)))

decimal_plain : (n : ℕ) → n < 2 ^ 64 → escape (decimal n) ≡ decimal n
decimal_plain n h = digits_plain (decimal n) (λ i l. digit_at (decimal n) i (decimal_is_IsNumeral n h).0.1 l)

letter_plain : (f : Family) → escape_byte (letter_of f) ≡ letter_of f ∷ []
unfolding escape_byte
letter_plain S = refl
letter_plain U = refl
letter_plain N = refl
letter_plain I = refl
letter_plain M = refl
letter_plain X = refl
letter_plain A = refl
letter_plain D = refl
letter_plain F = refl
letter_plain L = refl

-- a rule's text
pub rule_plain : (rule : Rule) → rule.number < 2 ^ 64 → escape (rule_text rule) ≡ rule_text rule
rule_plain rule h = more (letter_of rule.family) (decimal rule.number) (letter_plain rule.family) (decimal_plain rule.number h)

-- what a judged event is called
pub event_plain : (settle : Bool) → escape (event_word settle) ≡ event_word settle
unfolding escape_byte
event_plain true = refl
event_plain false = refl

digit_plain : (k : ℕ) → k < 16 → escape_byte (slice_index lower_digits k) ≡ slice_index lower_digits k ∷ []
unfolding escape_byte
digit_plain zero h = refl
digit_plain (suc zero) h = refl
digit_plain (suc (suc zero)) h = refl
digit_plain (suc (suc (suc zero))) h = refl
digit_plain (suc (suc (suc (suc zero)))) h = refl
digit_plain (suc (suc (suc (suc (suc zero))))) h = refl
digit_plain (suc (suc (suc (suc (suc (suc zero)))))) h = refl
digit_plain (suc (suc (suc (suc (suc (suc (suc zero))))))) h = refl
digit_plain (suc (suc (suc (suc (suc (suc (suc (suc zero)))))))) h = refl
digit_plain (suc (suc (suc (suc (suc (suc (suc (suc (suc zero))))))))) h = refl
digit_plain (suc (suc (suc (suc (suc (suc (suc (suc (suc (suc zero)))))))))) h = refl
digit_plain (suc (suc (suc (suc (suc (suc (suc (suc (suc (suc (suc zero))))))))))) h = refl
digit_plain (suc (suc (suc (suc (suc (suc (suc (suc (suc (suc (suc (suc zero)))))))))))) h = refl
digit_plain (suc (suc (suc (suc (suc (suc (suc (suc (suc (suc (suc (suc (suc zero))))))))))))) h = refl
digit_plain (suc (suc (suc (suc (suc (suc (suc (suc (suc (suc (suc (suc (suc (suc zero)))))))))))))) h = refl
digit_plain (suc (suc (suc (suc (suc (suc (suc (suc (suc (suc (suc (suc (suc (suc (suc zero))))))))))))))) h = refl
digit_plain (suc (suc (suc (suc (suc (suc (suc (suc (suc (suc (suc (suc (suc (suc (suc (suc k)))))))))))))))) h = absurd (omega arith)

-- hexadecimal digits
pub hex_plain : (bs : List ℕ) → ((k : ℕ) → get_or bs k 0 < 256) → escape (encode_lower bs) ≡ encode_lower bs
unfolding encode_with
hex_plain [] h = refl
hex_plain (b ∷ bs) h =
    let small = h 0 in
    more (slice_index lower_digits (b / 16)) (slice_index lower_digits (b % 16) ∷ encode_lower bs) (digit_plain (b / 16) (omega arith))
    (more (slice_index lower_digits (b % 16)) (encode_lower bs) (digit_plain (b % 16) (omega arith)) (hex_plain bs (λ k. h (suc k))))

-- the name of a trace's fault
pub name_plain : (number : ℕ) → 1 ≤ number → number ≤ 7 → escape (fault_name number) ≡ fault_name number
unfolding escape_byte
name_plain zero low high = absurd (omega arith)
name_plain (suc zero) low high = refl
name_plain (suc (suc zero)) low high = refl
name_plain (suc (suc (suc zero))) low high = refl
name_plain (suc (suc (suc (suc zero)))) low high = refl
name_plain (suc (suc (suc (suc (suc zero))))) low high = refl
name_plain (suc (suc (suc (suc (suc (suc zero)))))) low high = refl
name_plain (suc (suc (suc (suc (suc (suc (suc zero))))))) low high = refl
name_plain (suc (suc (suc (suc (suc (suc (suc (suc k)))))))) low high = absurd (omega arith)

pub whatever : {T E P : Type 0} (r : Result T E) → P → IfOk r (λ x. P)
whatever (Ok x) p = p
whatever (Err e) p = tt
