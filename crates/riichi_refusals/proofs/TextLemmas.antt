-- UTF-8 as a test.
use Rattle.std.proofs.lemmas.Str.{IsUtf8-from_is_utf8, is_utf8-from_IsUtf8}

pub ruleset utf8_tests = (IsUtf8-from_is_utf8, is_utf8-from_IsUtf8)
