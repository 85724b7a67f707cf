-- A ladder as SVG (profile). All of it is ASCII, and the words in it are letters, digits, spaces, hyphens and line
-- feeds.
use Rattle.std.specs.Prelude.{ℕ, ◌+◌, ◌*◌, List, [], ◌∷◌, ◌++◌, length, codes, decimal}
use Rattle.ladders.specs.declared.row.Mark.{Mark}
use Rattle.ladders.specs.declared.row.Mark.TheVariants as mark
use Rattle.ladders.specs.declared.row.Row.{Row}
use Rattle.ladders.specs.Words.{label_words, said_line}

-- The name of the shape of a mark.
abbrev pub shape_name : Mark → List ℕ
shape_name mark.ToEncoder = codes "to-encoder"
shape_name mark.ToServer = codes "to-server"
shape_name mark.LostToEncoder = codes "lost-to-encoder"
shape_name mark.LostToServer = codes "lost-to-server"
shape_name mark.AtServer = codes "at-server"
shape_name mark.AtEncoder = codes "at-encoder"
shape_name mark.LostAtServer = codes "lost-at-server"
shape_name mark.LostAtEncoder = codes "lost-at-encoder"
shape_name mark.Nothing = codes "nothing"

-- How far below the top the row of this place stands, counted from 0.
abbrev pub depth : (place : ℕ) → ℕ
depth place = 34 * place + 62

-- How high a picture of so many rows is.
abbrev pub height : (count : ℕ) → ℕ
height count = 34 * count + 92

-- The shapes of the marks, each under its name. Blue is the server's and green the encoder's, and a cross is red.
abbrev pub shapes : List ℕ
shapes = (codes "<defs>\n"
    ++ (codes "<g id=\"to-encoder\"><path d=\"M 60 0 L 375 12\" stroke=\"#1d5fa8\"/>"
    ++ (codes "<path d=\"M 380 12 l -10 -5 l 0 9 z\" fill=\"#1d5fa8\"/></g>\n"
    ++ (codes "<g id=\"to-server\"><path d=\"M 380 0 L 65 12\" stroke=\"#2f7d4f\"/>"
    ++ (codes "<path d=\"M 60 12 l 10 -5 l 0 9 z\" fill=\"#2f7d4f\"/></g>\n"
    ++ (codes "<g id=\"lost-to-encoder\">"
    ++ (codes "<path d=\"M 60 0 L 220 7\" stroke=\"#1d5fa8\" stroke-dasharray=\"5 4\"/>"
    ++ (codes "<path d=\"M 220 1 l 12 12 m -12 0 l 12 -12\" stroke=\"#b3261e\"/></g>\n"
    ++ (codes "<g id=\"lost-to-server\">"
    ++ (codes "<path d=\"M 380 0 L 220 7\" stroke=\"#2f7d4f\" stroke-dasharray=\"5 4\"/>"
    ++ (codes "<path d=\"M 208 1 l 12 12 m -12 0 l 12 -12\" stroke=\"#b3261e\"/></g>\n"
    ++ (codes "<g id=\"at-server\"><circle cx=\"60\" cy=\"10\" r=\"4\" fill=\"#1d5fa8\"/></g>\n"
    ++ (codes "<g id=\"at-encoder\"><circle cx=\"380\" cy=\"10\" r=\"4\" fill=\"#2f7d4f\"/></g>\n"
    ++ (codes "<g id=\"lost-at-server\"><path d=\"M 54 4 l 12 12 m -12 0 l 12 -12\" stroke=\"#b3261e\"/>"
    ++ (codes "</g>\n"
    ++ (codes "<g id=\"lost-at-encoder\"><path d=\"M 374 4 l 12 12 m -12 0 l 12 -12\" stroke=\"#b3261e\"/>"
    ++ (codes "</g>\n"
    ++ (codes "<g id=\"nothing\"/>\n"
    ++ (codes "</defs>\n")))))))))))))))))))

-- What stands above the rows: how large the picture is, its title, a white ground, the shapes, and the names and posts
-- of the ends.
abbrev pub head : (height : ℕ) → List ℕ
head height = codes "<svg xmlns=\"http://www.w3.org/2000/svg\" width=\"760\" height=\"" ++ (decimal height
    ++ (codes "\" viewBox=\"0 0 760 " ++ (decimal height
    ++ ((codes "\" font-family=\"DejaVu Sans Mono, monospace\" font-size=\"12\" stroke-width=\"1.5\""
    ++ (codes " role=\"img\">\n"
    ++ (codes "<title>A line between a server and an encoder</title>\n"
    ++ (codes "<rect width=\"760\" height=\"100%\" fill=\"white\"/>\n"))))
    ++ (shapes ++ ((codes "<text x=\"60\" y=\"26\" text-anchor=\"middle\" font-size=\"15\" fill=\"#1d5fa8\">server"
    ++ (codes "</text>\n"
    ++ (codes "<text x=\"380\" y=\"26\" text-anchor=\"middle\" font-size=\"15\" fill=\"#2f7d4f\">encoder"
    ++ (codes "</text>\n"
    ++ (codes "<path stroke=\"#1d5fa8\" stroke-width=\"2\" d=\"M 60 36 V "))))) ++ (decimal height
    ++ (codes "\"/>\n<path stroke=\"#2f7d4f\" stroke-width=\"2\" d=\"M 380 36 V " ++ (decimal height
    ++ codes "\"/>\n")))))))))

-- A row at a place, the first being 0.
abbrev pub picture_row : (place : ℕ) → Row → List ℕ
picture_row place row = codes "<g transform=\"translate(0 " ++ (decimal (depth place)
    ++ (codes ")\"><use href=\"#" ++ (shape_name row.mark
    ++ (codes "\"/><text x=\"220\" y=\"-3\" text-anchor=\"middle\" fill=\"#1f2933\">" ++ (label_words row.label
    ++ (codes "</text><text x=\"400\" y=\"16\" fill=\"#1f2933\">" ++ (said_line row.said
    ++ codes "</text></g>\n")))))))

-- Rows from a place on, each below the one before.
unfoldable pub picture_rows : (place : ℕ) → List Row → List ℕ
picture_rows place [] = []
picture_rows place (row ∷ rows) = picture_row place row ++ picture_rows (place + 1) rows

-- What stands below them: the totals.
abbrev pub foot : (depth : ℕ) → (totals : List ℕ) → List ℕ
foot depth totals = codes "<text x=\"20\" y=\"" ++ (decimal depth
    ++ (codes "\" fill=\"#1f2933\">" ++ (totals ++ codes "</text>\n</svg>\n")))

-- The whole picture.
abbrev pub picture : List Row → (totals : List ℕ) → List ℕ
picture rows totals =
    head (height (length rows)) ++ (picture_rows 0 rows ++ foot (depth (length rows) + 14) totals)
