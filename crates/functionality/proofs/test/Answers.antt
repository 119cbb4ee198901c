-- `test` meets its contract: the tests are told of the ways out that are found. Assumes nothing.
use Rattle.functionality.proofs.test.Goals as goal

pub search-failure-requires-clause-listed : goal.search-failure-requires-clause-listed
search-failure-requires-clause-listed c =
    record {
      found = c.ways_out-found.result;
      standing =
          record { valid = c.requires.t_value; ways = c.ways_out-found.ensures.ways_out; long_out = c.ways_out-found.ensures.long.0; long_out_step = c.ways_out-found.ensures.long.1 };
      is = c.ways_out-found.ensures.count;
      discovered = c.ways_out-found.ensures.discovered;
    }

pub returns-clause-standing : goal.returns-clause-standing
returns-clause-standing c =
    record { valid = c.requires.t_value; ways = c.ways_out-found.ensures.ways_out; long_out = c.ways_out-found.ensures.long.0; long_out_step = c.ways_out-found.ensures.long.1 }
