-- What is wrong with a grammar, and what can be done, for a person.
use Rattle.std.specs.Prelude.{ℕ, List, [], ◌∷◌, ◌++◌, codes, flat_map}
use Rattle.ipg_app_explain.specs.declared.why.Why.{Why}
use Rattle.ipg_app_explain.specs.declared.why.Why.TheVariants as why
use Rattle.ipg_app_explain.specs.Spot.{spot_lines}
use Rattle.ipg_app_explain.specs.Word.{word_at}

abbrev pub quoted : List ℕ → List ℕ
quoted word = 96 ∷ (word ++ 96 ∷ [])

-- `;` stands wrong, or the text ends too early
abbrev pub syntax : List ℕ → List ℕ
syntax [] = codes "The text ends here, and its grammar doesn't."
syntax (b ∷ word) = quoted (b ∷ word) ++ codes " can't stand here: no grammar goes on so."

-- what is wrong, whatever stands at the place
abbrev pub sentence : Why → List ℕ
sentence why.TooLong = codes "The grammar has more than 1048576 bytes."
sentence why.Lex = codes "No token begins here."
sentence why.Number = []
sentence why.Syntax = []
sentence why.Rules = codes "This rule is one too many: there are 1024 at most, local ones included."
sentence why.Alternatives = codes "This alternative is one too many: a rule has 64 at most."
sentence why.Terms = codes "This term is one too many: an alternative has 256 at most."
sentence why.Depth = codes "This expression nests deeper than 64."
sentence why.DuplicateRule = []
sentence why.UnknownRule = []
sentence why.DuplicateAttr = []
sentence why.UnknownAttr = []
sentence why.PartAttr = []
sentence why.NoOccurrence = []
sentence why.Circular = codes "This term waits for others, and they wait for it."
sentence why.NoTouch = codes "The items of this repetition may read no byte, so it may never end."
sentence why.MayLoop = codes "Each of these calls may keep the whole part of its caller, so parsing may never end."

-- what is wrong, by what stands there
abbrev pub wrong : Why → List ℕ → List ℕ
wrong why.Number word = quoted word ++ codes " is above 9223372036854775807, which is 2^63 - 1."
wrong why.Syntax word = syntax word
wrong why.DuplicateRule word = quoted word ++ codes " is a rule already, or a primitive."
wrong why.UnknownRule word = quoted word ++ codes " is no rule that can be seen from here, and no primitive."
wrong why.DuplicateAttr word = quoted word ++ codes " is an attribute of this alternative already."
wrong why.UnknownAttr word = quoted word ++ codes " is no attribute that can be read here."
wrong why.PartAttr word = quoted word ++ codes " is set by some alternatives of its rule, and not by all."
wrong why.NoOccurrence word = quoted word ++ codes " isn't read by this alternative as this asks for."
wrong why.TooLong word = sentence why.TooLong
wrong why.Lex word = sentence why.Lex
wrong why.Rules word = sentence why.Rules
wrong why.Alternatives word = sentence why.Alternatives
wrong why.Terms word = sentence why.Terms
wrong why.Depth word = sentence why.Depth
wrong why.Circular word = sentence why.Circular
wrong why.NoTouch word = sentence why.NoTouch
wrong why.MayLoop word = sentence why.MayLoop

-- what can be done
abbrev pub advice : Why → List ℕ
advice why.TooLong = codes "Is the file given before the grammar? The grammar comes first."
advice why.Lex = codes "In a string write \\xHH for a byte that isn't plain, \\\" for a quote, \\\\ for a backslash. Strings stand in \"..\"."
advice why.Number = codes "Compare the halves: U64LE has `hi` and `lo`."
advice why.Syntax = codes "Look before it too: a bracket or a `;` may be missing, or a reserved word stand where a name is due."
advice why.Rules = codes "Let one rule do what several do."
advice why.Alternatives = codes "Part the rule: A -> B / C ; has as many alternatives as B and C together."
advice why.Terms = codes "Part the alternative: a rule of its own reads the rest."
advice why.Depth = codes "Set an attribute to a part of it."
advice why.DuplicateRule = codes "Give one of the two another name; local rules count too."
advice why.UnknownRule = codes "Primitives are U8, U16LE, U16BE, U32LE, U32BE, U64LE, U64BE and Bytes. Rules of another `where` can't be seen."
advice why.DuplicateAttr = codes "Give the second one, or the loop's variable, another name."
advice why.UnknownAttr = codes "An alternative reads its own attributes, and a local rule those of its holder. Write A.f for the attribute f of a part A."
advice why.PartAttr = codes "Set it in each alternative, perhaps to 0."
advice why.NoOccurrence = codes "A.f wants one A in this alternative, or a switch with such a branch; A(e).f wants an array or a repetition of A."
advice why.Circular = codes "Give its interval or its value by what doesn't depend on it."
advice why.NoTouch = codes "Let each alternative of the item have a string, a number, or a rule that has one."
advice why.MayLoop = codes "Give one of them an interval that is shorter than the part, or a condition that excludes it."

-- what stands at the first of the places
abbrev pub first_word : List ℕ → List ℕ → List ℕ
first_word text [] = []
first_word text (at ∷ places) = word_at text at

-- behind the refusal's own line: each place, what is noted of them, what is wrong, and what can be done
abbrev pub explained : (said name text : List ℕ) → Why → (places notes : List ℕ) → List ℕ
explained said name text why places notes =
    said ++ (flat_map (spot_lines name text) places ++ (notes ++ (wrong why (first_word text places) ++ 10 ∷ (advice why ++ 10 ∷ []))))
