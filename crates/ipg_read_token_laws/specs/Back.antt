-- The law of canonical texts: what is written as tokens is read as those tokens.
use Rattle.std.specs.Prelude.{◌≡◌, ◌^◌, ◌≤◌, List, length, Ok}
use Rattle.std.specs.List.{AllByRecursion}
use Rattle.ipg_ast.specs.declared.token.TokenKind.{TokenKind}
use Rattle.ipg_ast.specs.Canonical.{tokens_text}
use Rattle.ipg_read_tokens.specs.Lexical.{tokens_of}
use Rattle.ipg_read_tokens.specs.Shaped.{IsToken, placed}

abbrev pub GivesTokensBack : Type 0
GivesTokensBack = (ts : List TokenKind) → AllByRecursion IsToken ts → length (tokens_text ts) ≤ 2 ^ 20 → tokens_of (tokens_text ts) ≡ Ok (placed 0 ts)
