use Rattle.std.proofs.Common.{◌≡◌, ◌≤◌, ◌-◌, length}
use Rattle.js_scan.specs.Tokens.{tokens_from, tokens, InOrder}
use Rattle.js_scan.specs.Utf8.{TextBehindAscii}
use Rattle.js_scan.proofs.TokensLemmas.{with_tokens}
use Rattle.js_scan.proofs.scanner.tokens.Given as goal

abbrev pub invariant-tokens : goal.invariant-tokens
invariant-tokens l = record {
  within : length l.rest ≤ length l.text;
  cut : TextBehindAscii l.rest;
  reads : with_tokens l.found.items (tokens_from (length l.text) l.divides 0 l.rest) ≡ tokens l.text;
  in_order : InOrder 0 (length l.text - length l.rest) l.found.items;
}

abbrev pub decreases-tokens : goal.decreases-tokens
decreases-tokens l = length l.rest
