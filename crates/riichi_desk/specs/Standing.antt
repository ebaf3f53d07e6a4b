-- Standings as the command line asks for them.
use Rattle.desk_cli.specs.declared.request.TieWord.{TieWord}
use Rattle.desk_cli.specs.declared.request.TieWord.TheVariants as words
use Rattle.riichi_standings.specs.declared.places.TieBreak.{TieBreak}
use Rattle.riichi_standings.specs.declared.places.TieBreak.TheVariants as ties

-- what parts equal totals
abbrev pub ties_of : TieWord → TieBreak
ties_of words.Shared = ties.Shared
ties_of words.Firsts = ties.Firsts
ties_of words.Best = ties.Best
