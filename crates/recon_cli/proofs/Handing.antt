-- Lines that are handed to a sink one after the other.
use Rattle.std.proofs.Common.{◌≡◌, List, [], ◌∷◌, ◌++◌, map, Option, Some, None, option_map, refl, sym, ap, ◌∙◌, append_assoc, append-nil, ℕ}
use Rattle.std.proofs.lemmas.List.{map-append}
use Rattle.recon_disk.specs.declared.sink.Sink.{Ghosts as SinkGhosts}
use Rattle.report.specs.declared.line.Line.{Line}
use Rattle.recon_cli.specs.declared.lines.Style.{Style}
use Rattle.recon_cli.specs.Outcome.{line_in}
use Rattle.recon_cli.specs.Run.{TookLines}

nothing_behind : {A : Type 0} (o : Option (List A)) → o ≡ option_map (λ before. before ++ []) o
nothing_behind None = refl
nothing_behind (Some before) = ap Some (sym (append-nil before))

behind_twice : {A : Type 0} (o : Option (List A)) (xs ys : List A) → option_map (λ before. before ++ ys) (option_map (λ before. before ++ xs) o) ≡ option_map (λ before. before ++ (xs ++ ys)) o
behind_twice None xs ys = refl
behind_twice (Some before) xs ys = ap Some (append_assoc before xs ys)

-- no line was handed over
pub no_lines : {K : Type 0} {sinks : SinkGhosts K} {style : Style} {old new : K} → sinks.pieces new ≡ sinks.pieces old → TookLines sinks style old new
no_lines {sinks = sinks} {old = old} same = record { lines = []; pieces = same ∙ nothing_behind (sinks.pieces old) }

-- one was, in one write
pub one_line : {K : Type 0} {sinks : SinkGhosts K} {style : Style} {old new : K} {piece : List ℕ} (line : Line) → sinks.pieces new ≡ option_map (λ before. before ++ piece ∷ []) (sinks.pieces old)
    → piece ≡ line_in style line → TookLines sinks style old new
one_line {sinks = sinks} {old = old} line took is = record { lines = line ∷ []; pieces = took ∙ ap (λ p. option_map (λ before. before ++ p ∷ []) (sinks.pieces old)) is }

-- further ones were
pub more_lines : {K : Type 0} {sinks : SinkGhosts K} {style : Style} {old mid new : K} → TookLines sinks style old mid → TookLines sinks style mid new → TookLines sinks style old new
more_lines {sinks = sinks} {style = style} {old = old} first later = record {
  lines = first.lines ++ later.lines;
  pieces =
      later.pieces
      ∙ ap (option_map (λ before. before ++ map (line_in style) later.lines)) first.pieces
      ∙ behind_twice (sinks.pieces old) (map (line_in style) first.lines) (map (line_in style) later.lines)
      ∙ ap (λ ls. option_map (λ before. before ++ ls) (sinks.pieces old)) (sym (map-append (line_in style) first.lines later.lines));
}
