mod March
