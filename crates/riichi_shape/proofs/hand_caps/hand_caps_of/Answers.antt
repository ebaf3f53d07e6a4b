use Rattle.std.proofs.Common.{rules}
use Rattle.riichi_shape.proofs.hand_caps.hand_caps_of.Goals as goal

pub returns : goal.returns
returns c = λ suit. record {
  caps_at = λ rank low. (let post = c.of.ensures suit in search rules);
  none_past = λ rank past. (let post = c.of.ensures suit in search rules);
}
