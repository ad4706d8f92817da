use Rattle.std.proofs.Common.{◌∙◌, sym, ap, rules, tests, option_map}
use Rattle.std.specs.Map.Iter.{deref_pair}
use Rattle.std.proofs.lemmas.Iterator.Search.{find_from_yields_List}
use Rattle.std.proofs.lemmas.Iterator.Consumers.{YieldsList-from_rest}
use Rattle.span_index.specs.Places.{is_stop}
use Rattle.span_index.proofs.kept.SpanIndex.first_stop.Goals as goal

pub returns-in_err-place-clause-value : goal.returns-in_err-place-clause-value
returns-in_err-place-clause-value g c =
    let found = find_from_yields_List (λ e. is_stop c.args.sort c.args.class c.args.address e.0) _ _ c.find.result c.find.ensures.ran (YieldsList-from_rest _ (c.range.ensures.between tt)) (λ x b q k. search (rules, tests)) in
    c.from_residual.ensures ∙ sym (ap (option_map deref_pair) c.in_err-place.was) ∙ found

pub returns-clause-value : goal.returns-clause-value
returns-clause-value g c =
    let found = find_from_yields_List (λ e. is_stop c.args.sort c.args.class c.args.address e.0) _ _ c.find.result c.find.ensures.ran (YieldsList-from_rest _ (c.range.ensures.between tt)) (λ x b q k. search (rules, tests)) in
    sym (ap (option_map deref_pair) c.in_ok-place.was) ∙ found
