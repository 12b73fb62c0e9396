-- What is written of a rule, and of a refused input.
use Rattle.std.specs.Prelude.{ℕ, List, ◌++◌, Some, None, codes, decimal, Option}
use Rattle.meaning.specs.declared.verdict.Verdict.{Verdict}
use Rattle.meaning.specs.declared.verdict.Verdict.TheVariants.{Holds, Fails, Open}
use Rattle.meaning.specs.Terms.{cause_number}
use Rattle.reports.specs.declared.input.InputRefusal.{InputRefusal}
use Rattle.reports.specs.declared.line.Line.{Line}
use Rattle.reports.specs.Input.{input_refusal_number, input_carried}

-- a verdict in words, with the row, the place and the cause if it is open
abbrev pub said : Verdict → List ℕ
said Holds = codes " holds"
said Fails = codes " fails"
said (Open o) = codes " open " ++ (decimal o.row ++ (codes " " ++ (decimal o.place ++ (codes " " ++ decimal (cause_number o.cause)))))

-- the rule, and what is said of it
abbrev pub line_of : Line → List ℕ
line_of line = decimal line.rule ++ said line.verdict

-- the number, and the row or the event if there is one

abbrev pub refused_with : (number : ℕ) → Option ℕ → List ℕ
refused_with number None = codes "refused " ++ decimal number
refused_with number (Some carried) = codes "refused " ++ (decimal number ++ (codes " " ++ decimal carried))

abbrev pub refusal_line : InputRefusal → List ℕ
refusal_line refusal = refused_with (input_refusal_number refusal) (input_carried refusal)
