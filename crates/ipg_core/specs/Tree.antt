-- What a parse gives: a tree whose children carry their intervals in the part of their parent.
use Rattle.std.specs.Prelude.{ℕ, zero, suc, ◌+◌, List, [], ◌∷◌, Option, Some, None, ℤ}
use Rattle.ipg_core.specs.declared.grammar.Primitive.{Primitive}
use Rattle.ipg_core.specs.declared.grammar.Primitive.TheVariants.{Bytes}
use Rattle.ipg_core.specs.declared.grammar.Sym.{Sym}
use Rattle.ipg_core.specs.declared.grammar.Sym.TheVariants.{Text, Prim, Rule}

mutual
  pub data Tree : Type 0 where
    -- a rule on a part of that many bytes: its attributes in text order, its ends, its children in text order
    Node : (rule size : ℕ) (attrs : List (ℕ × ℤ)) (start end : ℕ) (kids : Kids) → Tree

  pub data Kid : Type 0 where
    Sub : (from to : ℕ) → Tree → Kid
    -- a terminal with its bytes
    Token : (from to : ℕ) → List ℕ → Kid
    -- a number: both halves of one of 64 bits, else 0 and the value
    Number : (from to : ℕ) → Primitive → (high low : ℕ) → Kid
    -- raw bytes
    Raw : (from to : ℕ) → List ℕ → Kid
    -- an array of items of one symbol
    Array : Sym → Kids → Kid
    -- a repetition of items of one symbol
    Many : Sym → Kids → Kid

  pub data Kids : Type 0 where
    no_kids : Kids
    kid : Kid → Kids → Kids

-- a list of children as the children of a tree
abbrev pub kids_of : List Kid → Kids
kids_of [] = no_kids
kids_of (k ∷ ks) = kid k (kids_of ks)

abbrev pub count_of : Kids → ℕ
count_of no_kids = 0
count_of (kid k ks) = count_of ks + 1

abbrev pub kid_at : Kids → ℕ → Option Kid
kid_at no_kids n = None
kid_at (kid k ks) zero = Some k
kid_at (kid k ks) (suc n) = kid_at ks n

abbrev pub items_of : Kid → Kids
items_of (Sub from to tree) = no_kids
items_of (Token from to bytes) = no_kids
items_of (Number from to prim high low) = no_kids
items_of (Raw from to bytes) = no_kids
items_of (Array sym items) = items
items_of (Many sym items) = items

abbrev pub rule_of : Tree → ℕ
rule_of (Node rule size attrs start end kids) = rule

abbrev pub attrs_of : Tree → List (ℕ × ℤ)
attrs_of (Node rule size attrs start end kids) = attrs

-- what was parsed
abbrev pub sym_of : Kid → Sym
sym_of (Sub from to tree) = Rule (rule_of tree)
sym_of (Token from to bytes) = Text bytes
sym_of (Number from to prim high low) = Prim prim
sym_of (Raw from to bytes) = Prim Bytes
sym_of (Array sym items) = sym
sym_of (Many sym items) = sym
