use Rattle.std.proofs.Common.{◌≡◌, ◌+◌, ◌*◌, length, Ok}
use Rattle.jq_words.specs.Results.{IsRest}
use Rattle.jq_parts.specs.Calls.{elements_in}
use Rattle.jq_read.specs.Chains.{several, calls}
use Rattle.jq_read.specs.Statements.{more_ones, sequence, block}
use Rattle.jq_read.specs.Readers.{context_of, state_of, GoesOn}
use Rattle.jq_parts.specs.Views.{value_of}
use Rattle.jq_read.proofs.SequenceSteps.{AreCounted, ReadsOn}
use Rattle.jq_read.proofs.+grammar.Given as goal

abbrev pub decreases-sequences::block : goal.decreases-sequences::block
decreases-sequences::block l = 32 * l.room

abbrev pub decreases-bodies::function_body : goal.decreases-bodies::function_body
decreases-bodies::function_body l = 32 * l.room + 1

abbrev pub decreases-bodies::function : goal.decreases-bodies::function
decreases-bodies::function l = 32 * l.room + 2

abbrev pub decreases-bodies::named_function : goal.decreases-bodies::named_function
decreases-bodies::named_function l = 32 * l.room + 2

abbrev pub decreases-bodies::handed : goal.decreases-bodies::handed
decreases-bodies::handed l = 32 * l.room + 3

abbrev pub decreases-bodies::bracketed : goal.decreases-bodies::bracketed
decreases-bodies::bracketed l = 32 * l.room + 3

abbrev pub decreases-bodies::start : goal.decreases-bodies::start
decreases-bodies::start l = 32 * l.room + 4

abbrev pub decreases-bodies::once : goal.decreases-bodies::once
decreases-bodies::once l = 32 * l.room + 4

abbrev pub decreases-bodies::timer : goal.decreases-bodies::timer
decreases-bodies::timer l = 32 * l.room + 4

abbrev pub decreases-chains::several : goal.decreases-chains::several
decreases-chains::several l = 32 * l.room + 4

abbrev pub decreases-chains::listen_arguments : goal.decreases-chains::listen_arguments
decreases-chains::listen_arguments l = 32 * l.room + 4

abbrev pub decreases-chains::call_arguments : goal.decreases-chains::call_arguments
decreases-chains::call_arguments l = 32 * l.room + 5

abbrev pub decreases-chains::call : goal.decreases-chains::call
decreases-chains::call l = 32 * l.room + 1

abbrev pub decreases-chains::calls : goal.decreases-chains::calls
decreases-chains::calls l = 32 * l.room + 2

abbrev pub decreases-chains::chain : goal.decreases-chains::chain
decreases-chains::chain l = 32 * l.room + 3

abbrev pub decreases-declarations::value_behind : goal.decreases-declarations::value_behind
decreases-declarations::value_behind l = 32 * l.room + 4

abbrev pub decreases-declarations::one : goal.decreases-declarations::one
decreases-declarations::one l = 32 * l.room + 5

abbrev pub decreases-declarations::more_ones : goal.decreases-declarations::more_ones
decreases-declarations::more_ones l = 32 * l.room + 6

abbrev pub decreases-declarations::declaration : goal.decreases-declarations::declaration
decreases-declarations::declaration l = 32 * l.room + 7

abbrev pub decreases-statements::chain_statement : goal.decreases-statements::chain_statement
decreases-statements::chain_statement l = 32 * l.room + 4

abbrev pub decreases-statements::statement : goal.decreases-statements::statement
decreases-statements::statement l = 32 * l.room + 8

abbrev pub decreases-sequences::turn : goal.decreases-sequences::turn
decreases-sequences::turn l = 32 * l.room + 9

abbrev pub decreases-sequences::sequence : goal.decreases-sequences::sequence
decreases-sequences::sequence l = 32 * l.room + 10

abbrev pub invariant-sequences::sequence-statements : goal.invariant-sequences::sequence-statements
invariant-sequences::sequence-statements l = record {
  goes_on : GoesOn IsRest l.fn.reading l.reading (Ok (tt {0}));
  counted : AreCounted l.between l.reading.words.words;
  reads : ReadsOn l.in_block (block l.room) l.room (context_of l.fn.reading) l.between (state_of l.reading) l.reading.words.words
      (sequence l.in_block (block l.room) l.room (context_of l.fn.reading) (state_of l.fn.reading) 0 l.fn.reading.words.words);
}

abbrev pub decreases-sequences::sequence-statements : goal.decreases-sequences::sequence-statements
decreases-sequences::sequence-statements l = length l.reading.words.words

abbrev pub invariant-chains::several-arguments : goal.invariant-chains::several-arguments
invariant-chains::several-arguments l = record {
  goes_on : GoesOn IsRest l.fn.reading l.reading (Ok (tt {0}));
  reads : several l.lists (block l.room 0) l.room (context_of l.fn.reading) (elements_in (value_of l.reached)) l.left (state_of l.reading) l.reading.words.words
      ≡ several l.lists (block l.room 0) l.room (context_of l.fn.reading) (elements_in (value_of l.reached)) l.count (state_of l.fn.reading) l.fn.reading.words.words;
}

abbrev pub decreases-chains::several-arguments : goal.decreases-chains::several-arguments
decreases-chains::several-arguments l = l.left

abbrev pub invariant-chains::calls-calls : goal.invariant-chains::calls-calls
invariant-chains::calls-calls l = record {
  goes_on : GoesOn IsRest l.fn.reading l.reading (Ok (tt {0}));
  reads : calls (block l.room 1) l.room (context_of l.fn.reading) (value_of l.so_far) (state_of l.reading) 0 l.reading.words.words
      ≡ calls (block l.room 1) l.room (context_of l.fn.reading) (value_of l.fn.reached) (state_of l.fn.reading) 0 l.fn.reading.words.words;
}

abbrev pub decreases-chains::calls-calls : goal.decreases-chains::calls-calls
decreases-chains::calls-calls l = length l.reading.words.words

abbrev pub invariant-declarations::more_ones-ones : goal.invariant-declarations::more_ones-ones
invariant-declarations::more_ones-ones l = record {
  goes_on : GoesOn IsRest l.fn.reading l.reading (Ok (tt {0}));
  reads : more_ones (block l.room) l.room (context_of l.fn.reading) (state_of l.reading) 0 l.reading.words.words
      ≡ more_ones (block l.room) l.room (context_of l.fn.reading) (state_of l.fn.reading) 0 l.fn.reading.words.words;
}

abbrev pub decreases-declarations::more_ones-ones : goal.decreases-declarations::more_ones-ones
decreases-declarations::more_ones-ones l = length l.reading.words.words
