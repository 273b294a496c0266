-- Symbols, fields, operators and holders are read exactly.
use Rattle.std.proofs.Common.{◌≡◌, ℕ, List, [], ◌∷◌, ◌++◌, Option, Some, None, Ok, refl}
use Rattle.std.specs.Prelude.{slice_get}
use Rattle.std.specs.Int.{w32}
use Rattle.ipg_num.specs.declared.op.Op2.{Op2}
use Rattle.ipg_num.specs.declared.op.Op2.TheVariants.{Add, Sub, Mul, Div, Mod, Shl, Shr, BitAnd, BitOr, BitXor, Eq, Ne, Lt, Le, Gt, Ge}
use Rattle.ipg_core.specs.Grammar.{primitive_number}
use Rattle.ipg_core.specs.declared.grammar.Primitive.{Primitive}
use Rattle.ipg_core.specs.declared.grammar.Primitive.TheVariants.{U8, U16LE, U16BE, U32LE, U32BE, U64LE, U64BE, Bytes}
use Rattle.ipg_core.specs.declared.grammar.Sym.{Sym}
use Rattle.ipg_core.specs.declared.grammar.Sym.TheVariants as sym
use Rattle.ipg_core.specs.declared.grammar.CoreField.{CoreField}
use Rattle.ipg_core.specs.declared.grammar.CoreField.TheVariants as field
use Rattle.ipg_reader.specs.Found.{chain, tag_at, number_at, text_at}
use Rattle.ipg_reader.specs.Exact.{IsExact}
use Rattle.ipg_reader.specs.Laws.{IsShort, IsText, short_text, counted_text, ShortAreExact, TextsAreExact}
use Rattle.ipg_reader.specs.Chains.{IsBehind, behind_nothing, exact_tag, exact_tagged}
use Rattle.ipg_store_body.specs.declared.tag.SymTag.{SymTag}
use Rattle.ipg_store_body.specs.declared.tag.SymTag.TheVariants as sym_tag
use Rattle.ipg_store_body.specs.declared.tag.FieldTag.{FieldTag}
use Rattle.ipg_store_body.specs.declared.tag.FieldTag.TheVariants as field_tag
use Rattle.ipg_store_body.specs.declared.tag.HolderTag.{HolderTag}
use Rattle.ipg_store_body.specs.declared.tag.HolderTag.TheVariants as holder_tag
use Rattle.ipg_store_body.specs.Format.{sym_text, field_text, operator_number, holder_text}
use Rattle.ipg_store_body.specs.Fits.{FitsSym, FitsField, FitsHolder}
use Rattle.ipg_store_body.specs.Reading.{sym_tags, field_tags, holder_tags, primitives, operators}
use Rattle.ipg_store_body.specs.Reading.{sym_fields, sym_at, field_fields, field_at, holder_fields, holder_at}
use Rattle.ipg_store_body.proofs.Codec.{Codec, pair, behind, again}

-- ---- tags by themselves

pub prim_there : (p : Primitive) → slice_get primitives (primitive_number p) ≡ Some p
prim_there U8 = refl
prim_there U16LE = refl
prim_there U16BE = refl
prim_there U32LE = refl
prim_there U32BE = refl
prim_there U64LE = refl
prim_there U64BE = refl
prim_there Bytes = refl

abbrev pub prims : Codec Primitive
prims = record {
  Is = λ p. Unit {0};
  spell = λ p. primitive_number p ∷ [];
  read = tag_at primitives;
  exact = exact_tag U8 (U16LE ∷ U16BE ∷ U32LE ∷ U32BE ∷ U64LE ∷ U64BE ∷ Bytes ∷ []) primitive_number
      (refl, (refl, (refl, (refl, (refl, (refl, (refl, (refl, tt)))))))) prim_there;
}

pub op_there : (op : Op2) → slice_get operators (operator_number op) ≡ Some op
op_there Add = refl
op_there Sub = refl
op_there Mul = refl
op_there Div = refl
op_there Mod = refl
op_there Shl = refl
op_there Shr = refl
op_there BitAnd = refl
op_there BitOr = refl
op_there BitXor = refl
op_there Eq = refl
op_there Ne = refl
op_there Lt = refl
op_there Le = refl
op_there Gt = refl
op_there Ge = refl

abbrev pub ops : Codec Op2
ops = record {
  Is = λ op. Unit {0};
  spell = λ op. operator_number op ∷ [];
  read = tag_at operators;
  exact = exact_tag Add (Sub ∷ Mul ∷ Div ∷ Mod ∷ Shl ∷ Shr ∷ BitAnd ∷ BitOr ∷ BitXor ∷ Eq ∷ Ne ∷ Lt ∷ Le ∷ Gt ∷ Ge ∷ []) operator_number
      (refl, (refl, (refl, (refl, (refl, (refl, (refl, (refl, (refl, (refl, (refl, (refl, (refl, (refl, (refl, (refl, tt))))))))))))))))
      op_there;
}

-- ---- symbols, fields and holders

module _ (short_is : ShortAreExact) where
  abbrev pub short : Codec ℕ
  short = record { Is = IsShort; spell = short_text; read = number_at w32; exact = short_is }

  field_place : FieldTag → ℕ
  field_place field_tag.Attr = 0
  field_place field_tag.Start = 1
  field_place field_tag.End = 2

  field_behind : (tag : FieldTag) → IsBehind FitsField field_text (field_place tag) (field_fields tag)
  unfolding field_place
  field_behind field_tag.Attr = behind short field.Attr FitsField field_text 0 (λ a is. is) (λ a is. refl)
  field_behind field_tag.Start = behind_nothing field.Start FitsField field_text 1 tt refl
  field_behind field_tag.End = behind_nothing field.End FitsField field_text 2 tt refl

  field_again : (f : CoreField) (more : List ℕ) → FitsField f → chain (tag_at field_tags) field_fields (field_text f ++ more) ≡ Ok (f, more)
  field_again (field.Attr attr) more is = again short field.Attr attr more is
  field_again field.Start more is = refl
  field_again field.End more is = refl

  pub field_exact : IsExact FitsField field_text field_at
  unfolding field_at field_place
  field_exact = exact_tagged field_tag.Attr (field_tag.Start ∷ field_tag.End ∷ []) field_place (refl, (refl, (refl, tt)))
      FitsField field_text field_fields field_behind field_again

  abbrev pub fields : Codec CoreField
  fields = record { Is = FitsField; spell = field_text; read = field_at; exact = field_exact }

  holder_place : HolderTag → ℕ
  holder_place holder_tag.Global = 0
  holder_place holder_tag.Local = 1

  holder_behind : (tag : HolderTag) → IsBehind FitsHolder holder_text (holder_place tag) (holder_fields tag)
  unfolding holder_place
  holder_behind holder_tag.Global = behind_nothing None FitsHolder holder_text 0 tt refl
  holder_behind holder_tag.Local = behind (pair short short) Some FitsHolder holder_text 1 (λ h is. is) (λ h is. refl)

  holder_again : (h : Option (ℕ × ℕ)) (more : List ℕ) → FitsHolder h → chain (tag_at holder_tags) holder_fields (holder_text h ++ more) ≡ Ok (h, more)
  holder_again None more is = refl
  holder_again (Some holder) more is = again (pair short short) Some holder more is

  pub holder_exact : IsExact FitsHolder holder_text holder_at
  unfolding holder_at holder_place
  holder_exact = exact_tagged holder_tag.Global (holder_tag.Local ∷ []) holder_place (refl, (refl, tt))
      FitsHolder holder_text holder_fields holder_behind holder_again

  abbrev pub holders : Codec (Option (ℕ × ℕ))
  holders = record { Is = FitsHolder; spell = holder_text; read = holder_at; exact = holder_exact }

  module _ (texts_are : TextsAreExact) where
    abbrev pub texts : Codec (List ℕ)
    texts = record { Is = IsText; spell = counted_text; read = text_at; exact = texts_are }

    sym_place : SymTag → ℕ
    sym_place sym_tag.Text = 0
    sym_place sym_tag.Prim = 1
    sym_place sym_tag.Rule = 2

    sym_behind : (tag : SymTag) → IsBehind FitsSym sym_text (sym_place tag) (sym_fields tag)
    unfolding sym_place
    sym_behind sym_tag.Text = behind texts sym.Text FitsSym sym_text 0 (λ a is. is) (λ a is. refl)
    sym_behind sym_tag.Prim = behind prims sym.Prim FitsSym sym_text 1 (λ a is. is) (λ a is. refl)
    sym_behind sym_tag.Rule = behind short sym.Rule FitsSym sym_text 2 (λ a is. is) (λ a is. refl)

    sym_again : (s : Sym) (more : List ℕ) → FitsSym s → chain (tag_at sym_tags) sym_fields (sym_text s ++ more) ≡ Ok (s, more)
    sym_again (sym.Text bytes) more is = again texts sym.Text bytes more is
    sym_again (sym.Prim prim) more is = again prims sym.Prim prim more is
    sym_again (sym.Rule r) more is = again short sym.Rule r more is

    pub sym_exact : IsExact FitsSym sym_text sym_at
    unfolding sym_at sym_place
    sym_exact = exact_tagged sym_tag.Text (sym_tag.Prim ∷ sym_tag.Rule ∷ []) sym_place (refl, (refl, (refl, tt)))
        FitsSym sym_text sym_fields sym_behind sym_again

    abbrev pub syms : Codec Sym
    syms = record { Is = FitsSym; spell = sym_text; read = sym_at; exact = sym_exact }
