-- All theorems, as one value.
use mathlib.Core.Path.{sym, ◌∙◌}
use Rattle.conversion.proofs.Meaning.{conversion_means}
use Rattle.registers.proofs.Meaning.{registers_mean}
use Rattle.record.proofs.Meaning.{record_means}
use Rattle.reading.proofs.Meaning.{reading_means}
use Rattle.reading.proofs.Figures.{figures_hold}
use Rattle.block1.proofs.OffsetConversion.{offset_figures_hold, offset_rules}
use Rattle.reading.proofs.Product.{product_lines}
use Rattle.reading.proofs.Hundred.{hundred_holds}
use Rattle.gauge.proofs.Profiles.{only_two}
use Rattle.gauge.proofs.ImageAging.{pack_aging}
use Rattle.gauge.proofs.ImageProfiles.{images_share}
use Rattle.gauge.proofs.ImageOffset.{offset_uncarried}
use Rattle.runs.specs.SessionRecord.{did_of}
use Rattle.runs.proofs.Divided.{divided}
use Rattle.session_run.specs.SessionRun.{empty_of}
use Rattle.tray_record.specs.Tray.{empty_tray, tray_did}
use Rattle.mending.proofs.Worth as worth
use Rattle.intel_hex.proofs.RoundTrip as hex
use Rattle.demands.specs.Engines.{EnginesEqual}
use Rattle.demands.specs.Theorems.{OfSessions, OfSigned, OfTrays, OfGauges, OfBench, OfBooks, OfSteps, Theorems}
use Rattle.demands.proofs.Functions.{contracts}
use Rattle.demands.proofs.NoSlack.{no_slack}
use Rattle.demands.proofs.Crc.{crc_rule}
use Rattle.demands.proofs.Cases.{classes_hold}
use Rattle.demands.proofs.Called.{within_or_over, runs_exist}
use Rattle.demands.proofs.TakeOut.{out_answers}
use Rattle.demands.proofs.Bus.{bus_rules}
use Rattle.demands.proofs.Words.{words_mean}
use Rattle.demands.proofs.Cycles.{cycle_rules}
use Rattle.demands.proofs.Offset.{offset_runs}
use Rattle.demands.proofs.Demand1.{demand_1, tray_demand_1}
use Rattle.demands.proofs.Numbers.{each_number_holds}
use Rattle.demands.proofs.Demand2.{taken_image, demand_2, tray_demand_2}
use Rattle.demands.proofs.Demand3.{demand_3}
use Rattle.demands.proofs.TrayDemand3.{tray_demand_3}
use Rattle.demands.proofs.Example.{printed, demand_2_met, demand_3_met, bench_example}
use Rattle.demands.proofs.ReadBackExample.{read_back_met, slot_read_back_met}
use Rattle.demands.proofs.WholeTrays.{whole_tray_demand_3}
use Rattle.demands.proofs.EveryOpening.{every_tray_opens}
use Rattle.demands.proofs.TrayExample.{slot_carried_met, alone_met}
use Rattle.demands.proofs.TrayExample.{tray_demand_3_met, whole_tray_demand_3_met, whole_tray_refused_met, isolation_met, single_met}
use Rattle.demands.proofs.Alone.{alone}
use Rattle.demands.proofs.Slots.{slots_as_old}
use Rattle.demands.proofs.EachPack.{transactions_as_plain}
use Rattle.demands.proofs.Single.{single_as_plain}
use Rattle.demands.proofs.Isolation.{isolation, isolated_throughout}
use Rattle.demands.proofs.Slow.{slow}
use Rattle.demands.proofs.Longer.{longer, longer_met}
use Rattle.demands.proofs.Programming.{bench, bench_done}
use Rattle.demands.proofs.Mending.{mended_first, mending_met}
use Rattle.demands.proofs.HexExample.{round_trip_met}
use Rattle.demands.proofs.Blind.{from_events}
use Rattle.demands.proofs.Booked.{no_wider}
use Rattle.demands.proofs.History.{session_history, session_books, session_eeprom, slot_history, slot_books, slot_eeprom}
use Rattle.demands.proofs.Lives.{saved_cells_hold, own_as_holds, full_pack_holds}
use Rattle.demands.proofs.HundredExample.{hundred_met}
use Rattle.demands.proofs.OffsetExample.{books_over_1024th}
use Rattle.demands.proofs.BooksExample.{books_met, slot_books_met, eeprom_met, slot_eeprom_met}
use Rattle.demands.proofs.Stepwise.{sessions_stepwise, trays_stepwise}

sessions : OfSessions
sessions = record {
  bounded = within_or_over did_of empty_of;
  exist = runs_exist did_of empty_of;
  demand_1 = demand_1;
  numbers = each_number_holds;
  demand_2 = demand_2;
  read_back_met = read_back_met;
  demand_2_met = demand_2_met;
  out = out_answers;
  printed = printed;
  demand_3 = demand_3;
  demand_3_met = demand_3_met;
  classes = classes_hold;
  bus = bus_rules;
  crc = crc_rule;
  figures = figures_hold;
}

in_signed_numbers : OfSigned
in_signed_numbers = record { conversion = conversion_means; reading = reading_means; records = record_means; registers = registers_mean; words = words_mean }

trays : OfTrays
trays = record {
  bounded = within_or_over tray_did empty_tray;
  exist = runs_exist tray_did empty_tray;
  demand_1 = tray_demand_1;
  demand_2 = tray_demand_2;
  demand_2_met = slot_carried_met;
  read_back_met = slot_read_back_met;
  demand_3 = tray_demand_3;
  demand_3_met = tray_demand_3_met;
  whole_demand_3 = whole_tray_demand_3;
  whole_demand_3_met = whole_tray_demand_3_met;
  whole_demand_3_refused = whole_tray_refused_met;
  opens = every_tray_opens;
  slots = slots_as_old;
  transactions = transactions_as_plain;
  single = single_as_plain;
  single_met = single_met;
  alone = alone;
  alone_met = alone_met;
  isolation = isolation;
  throughout = isolated_throughout;
  isolation_met = isolation_met;
}

both_engines : EnginesEqual
both_engines meter raw n a b plain quick = plain.0 ∙ sym quick.0

gauges : OfGauges
gauges = record {
  hundred = hundred_holds;
  full_pack = full_pack_holds;
  full_pack_met = hundred_met;
  product = product_lines;
  engines = both_engines;
  slow = slow;
  offset = offset_rules;
  offset_runs = offset_runs;
  offset_images = offset_uncarried;
  offset_figures_lem = offset_figures_hold;
  longer = longer;
  longer_met = longer_met;
  profiles = only_two;
  cycles = cycle_rules;
  images = images_share;
  aging = pack_aging;
  own_as = own_as_holds;
}

at_bench : OfBench
at_bench = record {
  judged = taken_image;
  programmed = bench;
  programmed_done = bench_done;
  programmed_met = bench_example;
  mended = mended_first;
  mended_calls = worth.by_call;
  mended_lines = worth.listing;
  accepted = worth.accepted;
  unchanged = worth.unchanged;
  twice = worth.twice;
  arranged = worth.arranged;
  capped = worth.capped;
  kept = worth.kept;
  mending_met = mending_met;
  lines = hex.good_lines;
  exported = hex.unchanged;
  round_trip = hex.round_trip;
  round_trip_met = round_trip_met;
}

books : OfBooks
books = record {
  saved = saved_cells_hold;
  from_events = from_events;
  no_wider = no_wider;
  session = record { history = session_history; books = session_books; eeprom = session_eeprom };
  slots = λ j. record { history = slot_history j; books = slot_books j; eeprom = slot_eeprom j };
  books_met = books_met;
  books_over_1024th = books_over_1024th;
  slot_books_met = slot_books_met;
  eeprom_met = eeprom_met;
  slot_eeprom_met = slot_eeprom_met;
}

steps : OfSteps
steps = record { divided = divided; sessions = sessions_stepwise; trays = trays_stepwise }

pub theorems : Theorems
theorems = record {
  contracts = contracts;
  no_slack = no_slack;
  sessions = sessions;
  signed = in_signed_numbers;
  trays = trays;
  gauges = gauges;
  bench = at_bench;
  books = books;
  steps = steps;
}
