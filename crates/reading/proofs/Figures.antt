-- The figures hold: closed by computation.
use mathlib.Core.Path.{refl}
use mathlib.Core.List.{List, [], ◌∷◌, ◌++◌}
use Rattle.state.specs.State.{powered_of}
use Rattle.conversion.specs.Conversion.{cycled_of, counted_of, aged_full_of, share_of, share_up_of, averaged_of, renewed_of, found_of}
use Rattle.conversion.specs.Conversion.{learnt_of, filled_of, settled_of, flowed_of, convert_of}
use Rattle.reading.specs.Reading.{lowered_of, slopes_over, model_lines, draining_of, point_of, emptied_of, left_of, usable_of, percent_of}
use Rattle.reading.specs.Reading.{amount_of, results_of, rated_of, flagged_of, kept_of, seen_of, drained_of, results_shown, read_of}
use Rattle.reading.specs.Figures.{Figure, Hold, paper_figures, cycle_figures, large_falls, large_ages, large_results, large_figures, figures}

-- two tables, one behind the other
hold_both : (first second : List Figure) → Hold first → Hold second → Hold (first ++ second)
hold_both [] second one other = other
hold_both (f ∷ more) second one other = (one.0, hold_both more second one.1 other)

pub figures_hold : Hold figures
unfolding powered_of counted_of cycled_of averaged_of renewed_of found_of learnt_of aged_full_of share_of share_up_of filled_of settled_of flowed_of
    convert_of slopes_over
    model_lines draining_of point_of emptied_of left_of usable_of percent_of amount_of results_of rated_of flagged_of kept_of lowered_of seen_of drained_of
    results_shown read_of
figures_hold =
    hold_both paper_figures (cycle_figures ++ large_figures)
    (refl, (refl, (refl, (refl, (refl, (refl, (refl, (refl, (refl, (refl, (refl, (refl, (refl, (refl, (refl, (refl, (refl, tt)))))))))))))))))
    (hold_both cycle_figures large_figures (refl, (refl, (refl, (refl, (refl, (refl, (refl, (refl, (refl, tt)))))))))
    (hold_both large_falls (large_ages ++ large_results) (refl, (refl, (refl, (refl, (refl, (refl, (refl, (refl, tt))))))))
    (hold_both large_ages large_results (refl, (refl, (refl, (refl, (refl, (refl, (refl, (refl, (refl, (refl, tt))))))))))
    (refl, (refl, (refl, (refl, (refl, (refl, (refl, tt))))))))))
