-- What functions inside the crate promise each other on the way through a text.
use Rattle.std.specs.Prelude.{List, ◌++◌, Ok, Err}
use Rattle.ipg_read_tokens.specs.declared.token.Token.{Token}
use Rattle.ipg_read_tokens.specs.Lexical.{Lexed}

-- the tokens found so far before those of the rest
abbrev pub after_tokens : List Token → Lexed → Lexed
after_tokens found (Ok ts) = Ok (found ++ ts)
after_tokens found (Err f) = Err f
