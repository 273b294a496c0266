-- That to words something is said.
use Rattle.std.specs.Prelude.{ℕ, List, Option, Some, None}
use Rattle.ipg_outside.specs.Files.{Told, untold, absent, holds, AreBytes}
use Rattle.ipg_app_words.specs.Request as words
use Rattle.ipg_app_words.specs.Request.{Request, Use, Fmt, Trial, Query, View, Load, Explain, Formats, Help, Version, request_of}
use Rattle.ipg_app_text.specs.Order.{Order, Answers}
use Rattle.ipg_app.specs.Reply.{order_of}
use Rattle.ipg_app_text.specs.Said.{Said}

-- what is told of a name is so of a file: what it holds are bytes
abbrev pub MayBeSo : Told → Type 0
MayBeSo untold = Unit {0}
MayBeSo absent = Unit {0}
MayBeSo (holds bytes) = AreBytes bytes

-- it can't be that nothing is said
abbrev pub HasAnswer : (List ℕ → Told) → Order → Type 0
HasAnswer told order = ((said : Said) → Answers told order said → ⊥) → ⊥

-- `cert` and `table` want a certificate that texts can say; one of 2^64 cycles or more can't be said
abbrev pub HasReply : Option Request → Type 0
HasReply None = Unit {0}
HasReply (Some (Use grammar (words.Parse input memo mib))) = Unit {0}
HasReply (Some (Use grammar words.Check)) = Unit {0}
HasReply (Some (Use grammar words.Cert)) = ⊥
HasReply (Some (Use grammar (words.Verify certificate))) = Unit {0}
HasReply (Some (Use grammar words.Table)) = ⊥
HasReply (Some (Use grammar words.Cover)) = Unit {0}
HasReply (Some (Use grammar (words.Rebuild input))) = Unit {0}
HasReply (Some (Use grammar (words.Json input memo mib))) = Unit {0}
HasReply (Some (Use grammar (words.Edit input script))) = Unit {0}
HasReply (Some (Fmt grammar)) = Unit {0}
HasReply (Some (Trial kind n)) = Unit {0}
HasReply (Some (Query grammar input path)) = Unit {0}
HasReply (Some (View grammar input path memo mib)) = Unit {0}
HasReply (Some (Load table input)) = Unit {0}
HasReply (Some (Explain grammar input mib)) = Unit {0}
HasReply (Some Formats) = Unit {0}
HasReply (Some (Help command)) = Unit {0}
HasReply (Some Version) = Unit {0}

-- to other words something is said, whatever is told of files
abbrev pub SomeReply : Type 0
SomeReply = (told : List ℕ → Told) (words : List (List ℕ)) → ((name : List ℕ) → MayBeSo (told name)) → HasReply (request_of words)
    → HasAnswer told (order_of words)
