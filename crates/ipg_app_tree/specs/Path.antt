-- The path that a text is, and what is said of a text that is none.
use Rattle.std.specs.Prelude.{◌≡◌, ℕ, List, ◌++◌, codes, decimal, Result, Ok, Err}
use Rattle.ipg_reader.specs.Faults.{IsFirstFault}
use Rattle.ipg_query_path.specs.declared.path.Query.{Query}
use Rattle.ipg_query_path.specs.Paths.{path_text, FitsPath, IsPath}
use Rattle.ipg_app_text.specs.Said.{Said, refused}

abbrev pub query_syntax : ℕ → Said
query_syntax at = refused (codes "Q1 QuerySyntax " ++ decimal at)

-- no path begins with the bytes up to that place and with it, or the text ends there too early
pub record IsNoPath (text : List ℕ) (said : Said) : Type 0 where
  pub at : ℕ
  pub fault : IsFirstFault FitsPath path_text text at
  pub is : said ≡ query_syntax at

abbrev pub ReadsPath : List ℕ → Result Query Said → Type 0
ReadsPath text (Ok query) = IsPath query text
ReadsPath text (Err said) = IsNoPath text said
