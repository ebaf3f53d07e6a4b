use Rattle.std.proofs.Common.{◌≡◌, ◌++◌, length}
use Rattle.std.specs.Prelude.{All, IsPermutation}
use Rattle.riichi_score.specs.Scores.{score_of}
use Rattle.riichi_explain.specs.Ranked.{AreInOrder}
use Rattle.riichi_explain.proofs.RankLemmas.{readings_in}
use Rattle.riichi_explain.proofs.ranked.ranked_readings.Given as goal

-- the readings so far are ranked, and the others are left
abbrev pub invariant-loop-reading : goal.invariant-loop-reading
invariant-loop-reading l = record {
  parts : l.initial.reading-iterator ≡ l.yielded ++ l.reading-iterator;
  many : length l.ranked.items ≡ length l.yielded;
  each_once : IsPermutation l.yielded (readings_in l.ranked.items);
  scored : All (λ one. one.score ≡ score_of one.reading l.win) l.ranked.items;
  in_order : AreInOrder l.ranked.items;
}
