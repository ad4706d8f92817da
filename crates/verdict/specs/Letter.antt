-- The letter of a family of rules.
use Rattle.std.specs.Prelude.{ℕ}
use Rattle.verdict.specs.declared.finding.Family.{Family}
use Rattle.verdict.specs.declared.finding.Family.TheVariants.{S, U, N, I, M, X, A, D, F, L}

-- the ASCII code of the family's name
abbrev pub letter_of : Family → ℕ
letter_of S = 83
letter_of U = 85
letter_of N = 78
letter_of I = 73
letter_of M = 77
letter_of X = 88
letter_of A = 65
letter_of D = 68
letter_of F = 70
letter_of L = 76
