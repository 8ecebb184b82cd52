-- The text of a formula, with its bounds in seconds at a tick of this many seconds.
use Rattle.std.specs.Prelude.{ℕ, ◌*◌, List, [], ◌++◌, Option, Some, None, codes}
use Rattle.std.specs.Fmt.{decimal}
use Rattle.mtl_formulas.specs.declared.atom.Atom.{Atom}
use Rattle.mtl_formulas.specs.declared.formula.PairKind.{PairKind}
use Rattle.mtl_formulas.specs.declared.formula.PairKind.TheVariants.{And, Or, Implies}
use Rattle.mtl_formulas.specs.declared.formula.SpanKind.{SpanKind}
use Rattle.mtl_formulas.specs.declared.formula.SpanKind.TheVariants.{F, G, O, H}
use Rattle.mtl_formulas.specs.declared.formula.LinkKind.{LinkKind}
use Rattle.mtl_formulas.specs.declared.formula.LinkKind.TheVariants.{U, S}
use Rattle.mtl_language.specs.AtomWords.{word_of, atom_number}
use Rattle.mtl_formulas.specs.FormulaTree.{FormulaTree, leaf, negation, pair, span, link}

abbrev pub argument_text : Option ℕ → List ℕ
argument_text None = []
argument_text (Some n) = codes "(" ++ decimal n ++ codes ")"

-- the word, and the number in parentheses if there is one
abbrev pub atom_text : Atom → List ℕ
atom_text a = word_of a ++ argument_text (atom_number a)

abbrev pub pair_sign : PairKind → List ℕ
pair_sign And = codes "&"
pair_sign Or = codes "|"
pair_sign Implies = codes "->"

abbrev pub span_letter : SpanKind → List ℕ
span_letter F = codes "F"
span_letter G = codes "G"
span_letter O = codes "O"
span_letter H = codes "H"

abbrev pub link_letter : LinkKind → List ℕ
link_letter U = codes "U"
link_letter S = codes "S"

abbrev pub bounds_text : ℕ → ℕ → ℕ → List ℕ
bounds_text tick l u = codes "[" ++ decimal (l * tick) ++ codes "," ++ decimal (u * tick) ++ codes "]"

abbrev pub text_of : ℕ → FormulaTree → List ℕ
text_of tick (leaf a) = atom_text a
text_of tick (negation t) = codes "!" ++ text_of tick t
text_of tick (pair kind s t) =
    codes "(" ++ text_of tick s ++ codes " " ++ pair_sign kind ++ codes " " ++ text_of tick t ++ codes ")"
text_of tick (span kind l u t) = span_letter kind ++ bounds_text tick l u ++ codes " " ++ text_of tick t
text_of tick (link kind l u s t) =
    codes "(" ++ text_of tick s ++ codes " " ++ link_letter kind ++ bounds_text tick l u ++ codes " " ++ text_of tick t ++ codes ")"
