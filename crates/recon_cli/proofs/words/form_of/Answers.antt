use Rattle.std.proofs.Common.{map, string_bytes, sym, ◌∙◌, arith}
use Rattle.std.proofs.lemmas.Slice.Eq.{slice_eq-Decides}
use Rattle.std.proofs.lemmas.Bool.Decides.{Decides-eqb}
use Rattle.recon_cli.proofs.OneForm.{asked_of, no_form, one_make}
use Rattle.recon_cli.proofs.FewWords.{two_words, three_words, four_words}
use Rattle.recon_cli.proofs.words.form_of.Goals as goal

pub returns-in-len2 : goal.returns-in-len2
returns-in-len2 c =
    two_words string_bytes c.args.words.now _ c.first-item.result (omega arith) c.first-item.is (sym c.as_str.ensures.value ∙ (slice_eq-Decides Decides-eqb _ _ _ c.eq.ensures).0 c.if-eq.true)

pub returns-in-len2-2 : goal.returns-in-len2-2
returns-in-len2-2 c =
    two_words string_bytes c.args.words.now _ c.first-item-then-words-lt3.result (omega arith) c.first-item-then-words-lt3.is (sym c.as_str-then-words-lt3.ensures.value ∙ (slice_eq-Decides Decides-eqb _ _ _ c.eq-then-words-lt3.ensures).0 c.if-eq-2.true)

pub returns-in-len3 : goal.returns-in-len3
returns-in-len3 c =
    three_words string_bytes c.args.words.now _ _ c.first-item-then-words-lt4.result c.second-item.result (omega arith) c.first-item-then-words-lt4.is c.second-item.is
    (sym c.as_str-then-words-lt4.ensures.value ∙ (slice_eq-Decides Decides-eqb _ _ _ c.eq-then-words-lt4.ensures).0 c.if-eq-3.true)
    (sym c.as_str-then-eq-3.ensures.value ∙ (slice_eq-Decides Decides-eqb _ _ _ c.eq-then-eq-3.ensures).0 c.if-eq-4.true)

pub returns-in_err-seed-in-len4 : goal.returns-in_err-seed-in-len4
returns-in_err-seed-in-len4 c =
    let said = four_words string_bytes c.args.words.now _ c.first-item-then-words-lt5.result c.second-item-then-words-lt5.result c.third-item.result (omega arith) c.first-item-then-words-lt5.is c.second-item-then-words-lt5.is c.third-item.is
    (sym c.as_str-then-words-lt5.ensures.value ∙ (slice_eq-Decides Decides-eqb _ _ _ c.eq-then-words-lt5.ensures).0 c.if-eq-5.true) in
    no_form c.from_residual.result (map string_bytes c.args.words.now) c.from_residual.ensures
    (one_make (map string_bytes c.args.words.now) (string_bytes c.second-item-then-words-lt5.result) (string_bytes c.third-item.result) said.0 said.1
    (λ seed commits k. c.in_err-seed-in-len4.ensures seed commits (asked_of _ _ _ _ seed commits (sym c.as_str-in-len4.ensures.value) (sym c.as_str-in-len4-2.ensures.value) k)))

pub returns-in_ok-seed-in-len4 : goal.returns-in_ok-seed-in-len4
returns-in_ok-seed-in-len4 c =
    let said = four_words string_bytes c.args.words.now _ c.first-item-then-words-lt5.result c.second-item-then-words-lt5.result c.third-item.result (omega arith) c.first-item-then-words-lt5.is c.second-item-then-words-lt5.is c.third-item.is
    (sym c.as_str-then-words-lt5.ensures.value ∙ (slice_eq-Decides Decides-eqb _ _ _ c.eq-then-words-lt5.ensures).0 c.if-eq-5.true) in
    (_, _, said.0, said.1, asked_of _ _ _ _ c.in_ok-seed-in-len4.seed c.in_ok-seed-in-len4.commits c.as_str-in-len4.ensures.value c.as_str-in-len4-2.ensures.value c.in_ok-seed-in-len4.ensures)
