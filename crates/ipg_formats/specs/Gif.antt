-- A GIF of one pixel: header, logical screen descriptor, comment extensions, image descriptor,
-- pixels and trailer.
use Rattle.std.specs.Prelude.{ℕ, ◌%◌, List, [], ◌∷◌, ◌++◌, codes}
use Rattle.ipg_formats.specs.Fields.{le16, each}
use Rattle.ipg_formats.specs.declared.samples.gif.Screen.{Screen}
use Rattle.ipg_formats.specs.declared.samples.gif.Image.{Image}

abbrev pub header : List ℕ
header = codes "GIF89a"

unfoldable pub screen : Screen → List ℕ
screen s = le16 s.width ++ le16 s.height ++ (s.flags ∷ s.background ∷ s.aspect ∷ [])

-- a comment extension with one block of one byte
abbrev pub comment : ℕ → List ℕ
comment byte = 0x21 ∷ 0xfe ∷ 1 ∷ byte ∷ 0 ∷ []

abbrev pub comments : ℕ → List ℕ
comments n = each n (λ i. comment (i % 256))

unfoldable pub image : Image → List ℕ
image d = (0x2c ∷ []) ++ le16 d.left ++ le16 d.top ++ le16 d.width ++ le16 d.height
    ++ (d.flags ∷ [])

-- codes of two bits at first, and one block of two bytes: clear, colour 0, end
abbrev pub pixels : List ℕ
pixels = 2 ∷ 2 ∷ 0x44 ∷ 1 ∷ 0 ∷ []

abbrev pub trailer : List ℕ
trailer = 0x3b ∷ []

abbrev pub one_pixel : Screen
one_pixel = record { width = 1; height = 1; flags = 0; background = 0; aspect = 0 }

abbrev pub whole_screen : Image
whole_screen = record { left = 0; top = 0; width = 1; height = 1; flags = 0 }

unfoldable pub gif : ℕ → List ℕ
gif n = header ++ screen one_pixel ++ comments n ++ image whole_screen ++ pixels ++ trailer
