pub mod PeriodTexts
